-- Octets as base64 (RFC 4648 §4), said without a reader. Assumes nothing: these are definitions.
use Rattle.std.specs.Prelude.{◌≡◌, cond, List, [], ◌∷◌, ◌++◌, ℕ, zero, suc, ◌+◌, ◌-◌, ◌*◌, ◌/◌, ◌%◌, ◌≤◌, ltb, eqb, length}
use Rattle.octets.specs.Numbers.{Bytes}
use Rattle.octets.specs.Over.{over}
use Rattle.base64_text.specs.Base64.{blank}

-- the character of a value below 64: A to Z, a to z, 0 to 9, + and / (RFC 4648 §4, table 1)
unfoldable pub character : ℕ → ℕ
character v = cond (ltb v 26) (65 + v) (cond (ltb v 52) (97 + (v - 26)) (cond (ltb v 62) (48 + (v - 52)) (cond (eqb v 62) 43 47)))

-- a number in n characters, the most significant first
abbrev pub characters : ℕ → ℕ → List ℕ
characters zero v = []
characters (suc n) v = characters n (v / 64) ++ (character (v % 64) ∷ [])

-- three octets are a number of 24 bits, in four characters; one or two at the end have zero bits after them, up to a whole number of characters,
-- and padding up to four
unfoldable pub encode : List ℕ → List ℕ
encode [] = []
encode (a ∷ []) = characters 2 (a * 16) ++ (61 ∷ 61 ∷ [])
encode (a ∷ b ∷ []) = characters 3 ((a * 256 + b) * 4) ++ (61 ∷ [])
encode (a ∷ b ∷ c ∷ t) = characters 4 ((a * 256 + b) * 256 + c) ++ encode t

-- a text without its blanks
unfoldable pub unblanked : List ℕ → List ℕ
unblanked [] = []
unblanked (x ∷ t) = cond (blank x) (unblanked t) (x ∷ unblanked t)

-- a text is, its blanks left out, the encoding of n octets; the buffer `out` has room for them, and `out'` is that buffer with them at its front
pub record Encodes (text out : List ℕ) (n : ℕ) (out' : List ℕ) : Type 0 where
  pub octets : List ℕ
  pub bytes : Bytes octets
  pub encoded : unblanked text ≡ encode octets
  pub size : n ≡ length octets
  pub room : length octets ≤ length out
  pub laid : out' ≡ over 0 octets out
