-- Numbers as octets, the most significant first (RULES C2), over the width in octets. Assumes nothing: these are definitions.
use Rattle.std.specs.Prelude.{Bool, true, ◌&&◌, List, [], ◌∷◌, ◌++◌, map, ℕ, zero, suc, ◌+◌, ◌*◌, ◌/◌, ◌%◌, ◌<◌, eqb, leb, get_or, take, drop, replicate}
use Rattle.octets.specs.Lists.{All, flat}

-- x is from lo to hi
abbrev pub range : ℕ → ℕ → ℕ → Bool
range lo hi x = leb lo x && leb x hi

-- v in w octets (RULES C2)
abbrev pub be : ℕ → ℕ → List ℕ
be zero v = []
be (suc w) v = be w (v / 256) ++ (v % 256 ∷ [])

-- the number that octets are, after those that made a (RULES C2)
abbrev pub val_from : ℕ → List ℕ → ℕ
val_from a [] = a
val_from a (x ∷ xs) = val_from (a * 256 + x) xs

-- the number that octets are (RULES C2)
abbrev pub val : List ℕ → ℕ
val l = val_from 0 l

-- the numbers of two and of four octets at an index (RULES C2)
abbrev pub at16 : List ℕ → ℕ → ℕ
at16 s i = get_or s i 0 * 256 + get_or s (i + 1) 0

abbrev pub at32 : List ℕ → ℕ → ℕ
at32 s i = at16 s i * 65536 + at16 s (i + 2)

-- the number of the w octets from an index on (RULES C2)
unfoldable pub number_at : ℕ → ℕ → List ℕ → ℕ
number_at w i s = val (take w (drop i s))

-- an octet, a number from 0 to 255; and octets
abbrev pub Octet : ℕ → Type 0
Octet x = x < 256

abbrev pub Bytes : List ℕ → Type 0
Bytes l = All Octet l

-- octets as numbers of two octets each, where an odd last octet makes none; and such numbers one after another (RULES P4)
unfoldable pub words : List ℕ → List ℕ
words [] = []
words (a ∷ []) = []
words (a ∷ b ∷ s) = (a * 256 + b) ∷ words s

abbrev pub numbers_of : List ℕ → List ℕ
numbers_of ws = flat (map (be 2) ws)

-- n zeros, and whether octets are all zero (RULES B7)
abbrev pub zeros : ℕ → List ℕ
zeros n = replicate n 0

unfoldable pub all_zero : List ℕ → Bool
all_zero [] = true
all_zero (x ∷ xs) = eqb x 0 && all_zero xs
