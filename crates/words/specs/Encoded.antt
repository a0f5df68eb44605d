-- A table of words as octets, the form in which the code holds it, and the lookup of a number and of words in it. Assumes nothing: these are definitions.
use Rattle.std.specs.Prelude.{ℕ, zero, suc, Bool, true, false, cond, ◌&&◌, List, [], ◌∷◌, ◌++◌, eqb, take}
use Rattle.octets.specs.Lists.{same}
use Rattle.words.specs.Words.{Worded, unknown}

-- each entry is its number, its words and a line break
unfoldable pub encoded : List Worded → List ℕ
encoded [] = []
encoded (w ∷ ws) = w.number ∷ (w.words ++ (10 ∷ encoded ws))

-- how many octets stand before the first line break
unfoldable pub break_at : List ℕ → ℕ
break_at [] = 0
break_at (x ∷ xs) = cond (eqb x 10) 0 (suc (break_at xs))

-- the words of the first entry with the number k, up to its line break or the end, with the first j octets still to be skipped
unfoldable pub words_from : ℕ → ℕ → List ℕ → List ℕ
words_from k j [] = unknown
words_from k zero (x ∷ t) = cond (eqb x k) (take (break_at t) t) (words_from k (suc (break_at t)) t)
words_from k (suc j) (x ∷ t) = words_from k j t

-- the words of the number k in octets, whether they are a table or not
abbrev pub words_at : ℕ → List ℕ → List ℕ
words_at k t = words_from k 0 t

-- the number of the first entry with the words x, or 0, with the first j octets still to be skipped
unfoldable pub number_from : List ℕ → ℕ → List ℕ → ℕ
number_from x j [] = 0
number_from x zero (k ∷ t) = cond (same (take (break_at t) t) x) k (number_from x (suc (break_at t)) t)
number_from x (suc j) (k ∷ t) = number_from x j t

-- the number of the words x in octets, whether they are a table or not
abbrev pub number_at : List ℕ → List ℕ → ℕ
number_at x t = number_from x 0 t

-- no line break stands in a text
unfoldable pub plain : List ℕ → Bool
plain [] = true
plain (x ∷ xs) = cond (eqb x 10) false (plain xs)

-- none stands in the words of a table
unfoldable pub unbroken : List Worded → Bool
unbroken [] = true
unbroken (w ∷ ws) = plain w.words && unbroken ws
