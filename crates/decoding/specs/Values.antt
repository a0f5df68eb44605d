-- The values of an input (docs/COMMAND.md, "Input"): one of each line that spells octets, in order. Assumes nothing: these are definitions.
use Rattle.std.specs.Prelude.{cond, List, [], ◌∷◌, map, ℕ, eqb, length, take}
use Rattle.inputs.specs.Read.{Read, Octets, Bad, Long}
use Rattle.forms.specs.Forms.{list_of}
use Rattle.decoding.specs.Decoding.{room, lines_in}

-- the octets that were read to a buffer
abbrev pub octets_in : Read → List ℕ → List ℕ
octets_in (Octets k) value = take k value
octets_in (Bad at w) value = []
octets_in Long value = []

-- the value of a line, of no octets where the line is blank
unfoldable pub value_in : List ℕ → List ℕ
value_in line = octets_in (list_of line room).read (list_of line room).out

-- without those of no octets
unfoldable pub some : List (List ℕ) → List (List ℕ)
some [] = []
some (v ∷ vs) = cond (eqb (length v) 0) (some vs) (v ∷ some vs)

abbrev pub values_in : List ℕ → List (List ℕ)
values_in text = some (map value_in (lines_in text))
