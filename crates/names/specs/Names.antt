-- What an acceptable name is, said of the whole list: the label rule (RULES N2), the wire form and its limits (RULES N1); and the place of
-- the first octet at which no acceptable name can continue (RULES N5). Assumes nothing: these are definitions.
use Rattle.std.specs.Prelude.{◌≡◌, ◌⊎◌, Bool, true, ◌||◌, List, [], ◌∷◌, ◌++◌, ℕ, ◌+◌, ◌≤◌, ◌<◌, length, take}
use Rattle.octets.specs.Lists.{All}
use Rattle.octets.specs.Numbers.{range}

-- x is a letter or a digit (RULES N2)
unfoldable pub alnum : ℕ → Bool
alnum x = range 48 57 x || range 65 90 x || range 97 122 x

-- the first and the last octet of a list, and d of an empty one (of a label: RULES N2)
abbrev pub head : ℕ → List ℕ → ℕ
head d [] = d
head d (x ∷ xs) = x

abbrev pub last : ℕ → List ℕ → ℕ
last d [] = d
last d (x ∷ xs) = last x xs

-- a letter, a digit or a hyphen (RULES N2)
abbrev pub Ldh : ℕ → Type 0
Ldh x = (alnum x ≡ true) ⊎ (x ≡ 45)

-- 1 to 63 octets (RULES N1; RFC 1035 §2.3.4); house rule (RULES N2): letters, digits and hyphen, a letter or a digit at both ends
pub record Label (l : List ℕ) : Type 0 where
  pub some : 1 ≤ length l
  pub short : length l ≤ 63
  pub octets : All Ldh l
  pub begins : alnum (head 0 l) ≡ true
  pub ends : alnum (last 0 l) ≡ true

-- each label after its length octet, and the root octet (RULES N1; RFC 1035 §3.1)
abbrev pub wire : List (List ℕ) → List ℕ
wire [] = 0 ∷ []
wire (l ∷ ls) = length l ∷ (l ++ wire ls)

-- s is the wire form of one label or more, and has at most 255 octets (RULES N1)
pub record IsName (s : List ℕ) : Type 0 where
  pub labels : List (List ℕ)
  pub some : 1 ≤ length labels
  pub each : All Label labels
  pub is : s ≡ wire labels
  pub short : length s ≤ 255

-- p is the place, from 0, of the first octet of s at which nothing acceptable can continue, or the length of s where s is cut short (RULES N5)
pub record FirstBad (Acceptable : List ℕ → Type 0) (s : List ℕ) (p : ℕ) : Type 0 where
  pub not_acceptable : Acceptable s → ⊥
  pub within : p ≤ length s
  pub goes_on : (t : List ℕ) × Acceptable (take p s ++ t)
  pub halts : p < length s → (t : List ℕ) → Acceptable (take (p + 1) s ++ t) → ⊥
