-- Octets as lines of hexadecimal text (docs/COMMAND.md, `write`: "lower case, 16 octets a line, a space between octets, a line break at the end of
-- each line"). Assumes nothing: these are definitions.
use Rattle.std.specs.Prelude.{cond, List, [], ◌∷◌, ◌++◌, ℕ, ◌+◌, ◌%◌, eqb, length}
use Rattle.hexes.specs.Hexes.{two}

-- what follows octet i of n: a line break after the sixteenth of a line and after the last, else a space
abbrev pub after_of : ℕ → ℕ → ℕ
after_of i n = cond (eqb (i % 16) 15) 10 (cond (eqb (i + 1) n) 10 32)

-- the octets from the i-th of n on
unfoldable pub lines_from : ℕ → ℕ → List ℕ → List ℕ
lines_from i n [] = []
lines_from i n (b ∷ bs) = two b ++ (after_of i n ∷ lines_from (i + 1) n bs)

abbrev pub hex_lines_of : List ℕ → List ℕ
hex_lines_of s = lines_from 0 (length s) s
