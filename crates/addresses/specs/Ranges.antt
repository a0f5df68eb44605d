-- The addresses that are dropped when read, by the networks that RULES A1 names. Assumes nothing: this is a definition.
use Rattle.std.specs.Prelude.{◌≡◌, List, [], ◌∷◌, ◌++◌, ℕ, ◌≤◌, get_or}
use Rattle.octets.specs.Numbers.{zeros}

-- an address a of w octets is multicast or host loopback (RULES A1)
pub data Unusable (w : ℕ) (a : List ℕ) : Type 0 where
  -- 127.0.0.0/8 (RFC 1122 §3.2.1.3)
  loopback4 : w ≡ 4 → get_or a 0 0 ≡ 127 → Unusable w a
  -- 224.0.0.0/4 (RFC 5771 §3)
  multicast4 : w ≡ 4 → 224 ≤ get_or a 0 0 → get_or a 0 0 ≤ 239 → Unusable w a
  -- ::1 (RFC 4291 §2.5.3)
  loopback16 : w ≡ 16 → a ≡ zeros 15 ++ (1 ∷ []) → Unusable w a
  -- ff00::/8 (RFC 4291 §2.7)
  multicast16 : w ≡ 16 → get_or a 0 0 ≡ 255 → Unusable w a
