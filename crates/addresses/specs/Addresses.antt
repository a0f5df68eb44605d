-- Which addresses are dropped when read, and the kept ones in order (RULES A1, A2), over the width of an address.
-- Assumes nothing: these are definitions.
use Rattle.std.specs.Prelude.{◌≡◌, Bool, true, false, cond, List, [], ◌∷◌, ℕ, zero, suc, ◌+◌, ◌*◌, ◌/◌, ◌≤◌, ltb, eqb, length, get_or, take, drop}
use Rattle.std.specs.Bool.{beq}
use Rattle.octets.specs.Numbers.{all_zero}

-- an address has 4 octets or 16 (RULES C1): w is 4, or 12 more where `long` is 1 (in this form linear arithmetic decides it)
pub record Width (w : ℕ) : Type 0 where
  pub long : ℕ
  pub one : long ≤ 1
  pub is : w ≡ 4 + 12 * long

-- an IPv4 address by its first octet: host loopback 127.0.0.0/8, multicast 224.0.0.0/4 (RULES A1)
unfoldable pub unusable4 : ℕ → Bool
unusable4 x = cond (eqb x 127) true (cond (ltb x 224) false (ltb x 240))

-- an IPv6 address: multicast ff00::/8, host loopback ::1 (RULES A1)
unfoldable pub unusable16 : List ℕ → Bool
unusable16 a = cond (eqb (get_or a 0 0) 255) true (cond (eqb (get_or a 15 0) 1) (all_zero (take 15 a)) false)

-- the first octet of an IPv6 address that is kept whatever follows: neither that of ff00::/8 nor that of ::1 (RULES A1)
unfoldable pub plain16 : ℕ → Bool
plain16 x = cond (eqb x 0) false (cond (eqb x 255) false true)

-- an address of w octets is dropped when read (RULES A1)
unfoldable pub unusable : ℕ → List ℕ → Bool
unusable w a = cond (eqb w 4) (unusable4 (get_or a 0 0)) (unusable16 a)

-- the first n addresses of w octets that s holds (RULES C1)
abbrev pub addresses_of : ℕ → ℕ → List ℕ → List (List ℕ)
addresses_of w zero s = []
addresses_of w (suc n) s = take w s ∷ addresses_of w n (drop w s)

-- the addresses of w octets that s holds (RULES C1)
unfoldable pub list_of : ℕ → List ℕ → List (List ℕ)
list_of w s = addresses_of w (length s / w) s

-- those that stay, in their order (RULES A2)
unfoldable pub kept_of : ℕ → List (List ℕ) → List (List ℕ)
kept_of w [] = []
kept_of w (a ∷ more) = cond (unusable w a) (kept_of w more) (a ∷ kept_of w more)

-- some address is dropped (`wanted` true) or kept (`wanted` false) (RULES A1)
unfoldable pub has_of : ℕ → Bool → List (List ℕ) → Bool
has_of w wanted [] = false
has_of w wanted (a ∷ more) = cond (beq (unusable w a) wanted) true (has_of w wanted more)

-- one of them is to be dropped (RULES R25)
abbrev pub any_of : ℕ → List (List ℕ) → Bool
any_of w more = has_of w true more

-- none of them stays (RULES R25)
abbrev pub none_of : ℕ → List (List ℕ) → Bool
none_of w more = eqb (length (kept_of w more)) 0
