-- What an input is taken for (docs/COMMAND.md, "Input"): octets as they are, or those that a text spells; with `--value`, the options of its values.
-- Assumes nothing: these are definitions.
use Rattle.std.specs.Prelude.{Bool, true, false, cond, List, [], ◌∷◌, ℕ, ◌+◌, max, ltb, eqb, length, take, Option, Some, None}
use Rattle.numbers.specs.Limit as limit
use Rattle.octets.specs.Numbers.{zeros}
use Rattle.octets.specs.Over.{over}
use Rattle.arguments.specs.Form as form
use Rattle.arguments.specs.declared.Form.{Form}
use Rattle.arguments.specs.declared.Form.TheVariants.{Hex, Raw, Base64}
use Rattle.carriers.specs.declared.Carrier.{Carrier}
use Rattle.inputs.specs.Read.{Read, Octets, Bad, Long}
use Rattle.base64_text.specs.Base64 as base64
use Rattle.forms.specs.Places.{textual_of, begin_of}
use Rattle.forms.specs.Forms.{list_of}
use Rattle.forms.specs.Forms as forms
use Rattle.headers.specs.Headers as headers

-- what is answered, and the buffer then: as of a text
abbrev pub Answer : Type 0
Answer = forms.Answer

abbrev pub Answered : Answer → Read → List ℕ → Type 0
Answered a r out' = forms.Answered a r out'

abbrev pub answer : Read → List ℕ → Answer
answer r out = record { read = r; out = out }

-- ---- octets

-- as they are
abbrev pub raw_of : List ℕ → List ℕ → Answer
raw_of s out = cond (ltb (length out) (length s)) (answer Long out) (answer (Octets (length s)) (over 0 s out))

-- spelled in base64
abbrev pub base64_of : List ℕ → List ℕ → Answer
base64_of text out =
    answer (base64.answer (length out) (base64.decode text)) (over 0 (take (length out) (base64.decode text).octets) out)

-- in the form that is asked for; where none is, text in the form that it has, and anything else as it is
unfoldable pub read_as : Option Form → List ℕ → List ℕ → Answer
read_as (Some Raw) text out = raw_of text out
read_as (Some Base64) text out = base64_of text out
read_as (Some Hex) text out = forms.read_of text out
read_as None text out = cond (textual_of text) (forms.read_of text out) (raw_of text out)

-- the same by the number of the form
abbrev pub read_of : ℕ → List ℕ → List ℕ → Answer
read_of f text out = read_as (form.of f) text out

-- ---- values

-- room for a value
abbrev pub room : List ℕ
room = zeros limit.input

-- the options of what was read into a buffer of its own are added after the first n octets of `out`
abbrev pub added_of : Carrier → Read → List ℕ → List ℕ → ℕ → Answer
added_of c (Octets k) value out n = answer (headers.add_of out n c (take k value)).read (headers.add_of out n c (take k value)).out
added_of c (Bad at w) value out n = answer (Bad at w) out
added_of c Long value out n = answer Long out

-- those of a value, which is a list
abbrev pub listed_of : Carrier → List ℕ → List ℕ → ℕ → Answer
listed_of c line out n = added_of c (list_of line room).read (list_of line room).out out n

-- a fault in the blanks before a value is at the value's first character: a blank belongs to the line of what stands before it
abbrev pub at_value : List ℕ → Read → Read
at_value line (Octets m) = Octets m
at_value line (Bad at w) = Bad (max at (begin_of 0 line)) w
at_value line Long = Long

-- those of the value of a line
unfoldable pub line_of : Carrier → List ℕ → List ℕ → ℕ → Answer
line_of c line out n = answer (at_value line (listed_of c line out n).read) (listed_of c line out n).out

-- the lines of a text, without their breaks; a break ends a line, and so does the text
abbrev pub onto : ℕ → List (List ℕ) → List (List ℕ)
onto x [] = (x ∷ []) ∷ []
onto x (l ∷ ls) = (x ∷ l) ∷ ls

unfoldable pub lines_in : List ℕ → List (List ℕ)
lines_in [] = []
lines_in (x ∷ xs) = cond (eqb x 10) ([] ∷ lines_in xs) (onto x (lines_in xs))

-- one line after the other, of which the next begins at the i-th character, with n octets of options so far: the first line that spells no value, or one
-- that no option holds, is refused at its place in the text
abbrev pub after_line : ℕ → Read → List ℕ → (ℕ → List ℕ → Answer) → Answer
after_line i (Octets m) out next = next m out
after_line i (Bad at w) out next = answer (Bad (i + at) w) out
after_line i Long out next = answer Long out

unfoldable pub lines_from : Carrier → ℕ → ℕ → List ℕ → List (List ℕ) → Answer
lines_from c i n out [] = answer (Octets n) out
lines_from c i n out (l ∷ ls) = after_line i (line_of c l out n).read (line_of c l out n).out (λ m out'. lines_from c (i + (length l + 1)) m out' ls)

abbrev pub lines_of : Carrier → List ℕ → List ℕ → Answer
lines_of c text out = lines_from c 0 0 out (lines_in text)

-- lines are values where the input is text, but for base64
abbrev pub is_lines : ℕ → List ℕ → Bool
is_lines f text = cond (eqb f form.hex) true (cond (eqb f form.none) (textual_of text) false)

-- the options of the values: of each line, or of the whole input
unfoldable pub values_of : ℕ → Carrier → List ℕ → List ℕ → Answer
values_of f c text out =
    cond (is_lines f text) (lines_of c text out) (added_of c (read_of f text room).read (read_of f text room).out out 0)
