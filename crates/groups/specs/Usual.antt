-- Octets as they are usually written in hexadecimal: each by its digits, with a character between two of them. Assumes nothing: these are definitions.
use Rattle.std.specs.Prelude.{cond, List, [], ◌∷◌, ◌++◌, ℕ, ltb}
use Rattle.hexes.specs.Hexes.{digit_of, two}

-- one octet, without a leading zero
abbrev pub short : ℕ → List ℕ
short b = cond (ltb b 16) (digit_of b ∷ []) (two b)

-- the octets, each as `form` writes it, and x between two of them
abbrev pub parted : ℕ → (ℕ → List ℕ) → List ℕ → List ℕ
parted x form [] = []
parted x form (b ∷ []) = form b
parted x form (b ∷ c ∷ bs) = form b ++ x ∷ parted x form (c ∷ bs)
