-- Places in a text: what is looked for stands at an index, or nowhere, which is the text's length. Assumes nothing: these are definitions.
use Rattle.std.specs.Prelude.{Bool, true, false, cond, List, [], ◌∷◌, ℕ, ◌+◌, ltb, eqb, length, get_or}
use Rattle.hexes.specs.Hexes.{digit}
use Rattle.inputs.specs.Text as text
use Rattle.forms.specs.declared.places.Begins.{Begins}
use Rattle.forms.specs.declared.places.Begins.TheVariants as begins

-- ---- characters

abbrev pub blank : ℕ → Bool
blank x = text.blank x

-- x stands in no text; a terminal's colours (escape) and page breaks (form feed) do
unfoldable pub control : ℕ → Bool
control x = cond (blank x) false (cond (eqb x 27) false (cond (eqb x 12) false (cond (eqb x 127) true (ltb x 32))))

-- a byte order mark of 16-bit characters
unfoldable pub wide_text : List ℕ → Bool
wide_text t =
    cond (ltb (length t) 2) false
    (cond (eqb (get_or t 0 0) 255) (eqb (get_or t 1 0) 254)
    (cond (eqb (get_or t 0 0) 254) (eqb (get_or t 1 0) 255) false))

unfoldable pub uncontrolled : List ℕ → Bool
uncontrolled [] = true
uncontrolled (x ∷ xs) = cond (control x) false (uncontrolled xs)

-- octets look like text: none of them is a control character, or they begin as text in 16-bit characters does
abbrev pub textual_of : List ℕ → Bool
textual_of t = cond (wide_text t) true (uncontrolled t)

-- ---- the first of a kind, where the text goes on from the i-th character on

unfoldable pub place_of : ℕ → ℕ → List ℕ → ℕ
place_of x i [] = i
place_of x i (y ∷ ys) = cond (eqb y x) i (place_of x (i + 1) ys)

-- the first character that is no blank
unfoldable pub begin_of : ℕ → List ℕ → ℕ
begin_of i [] = i
begin_of i (y ∷ ys) = cond (blank y) (begin_of (i + 1) ys) i

-- the first brace, if the last character before it that is no blank is an =, or there is none; `last` is that character so far, and `size` the text's length
unfoldable pub brace_from : ℕ → ℕ → ℕ → List ℕ → ℕ
brace_from size last i [] = i
brace_from size last i (y ∷ ys) =
    cond (eqb y 123) (cond (eqb last 61) i size) (cond (blank y) (brace_from size last (i + 1) ys) (brace_from size y (i + 1) ys))

abbrev pub brace_of : List ℕ → ℕ
brace_of t = brace_from (length t) 61 0 t

-- ---- the number of a line

-- the line of the character at `at`, counted from 1: the breaks before it, where after the last of them no blank alone has stood
unfoldable pub line_from : ℕ → ℕ → ℕ → ℕ → List ℕ → ℕ
line_from at line breaks i [] = line
line_from at line breaks i (y ∷ ys) =
    cond (ltb at i) line
    (cond (eqb y 10) (line_from at line (breaks + 1) (i + 1) ys)
    (cond (blank y) (line_from at line breaks (i + 1) ys) (line_from at (line + breaks) 0 (i + 1) ys)))

abbrev pub line_of : ℕ → List ℕ → ℕ
line_of at t = line_from at 1 0 0 t

-- ---- a packet's head

-- what a line begins with after blanks: nothing yet 0, a 0 1, 0x and digits 2, these and a colon 3, anything else 4
abbrev pub begins_in : Begins → ℕ
begins_in begins.Nothing = 0
begins_in begins.Zero = 1
begins_in begins.Digits = 2
begins_in begins.Offset = 3
begins_in begins.Other = 4

unfoldable pub begins_offset : ℕ → ℕ
begins_offset x = cond (eqb x 58) 3 (cond (digit x) 2 4)

unfoldable pub begins_line : ℕ → ℕ
begins_line x = cond (eqb x 48) 1 (cond (blank x) 0 4)

unfoldable pub begins_with : ℕ → ℕ → ℕ
begins_with k x =
    cond (eqb x 10) 0
    (cond (eqb k 0) (begins_line x)
    (cond (eqb k 2) (begins_offset x)
    (cond (eqb k 1) (cond (eqb x 120) 2 4) 4)))

-- where the first line begins that begins with 0x, digits and a colon; `line` is where the line of the i-th character begins, and k what it begins with
unfoldable pub packet_from : ℕ → ℕ → ℕ → List ℕ → ℕ
packet_from k line i [] = i
packet_from k line i (y ∷ ys) =
    cond (eqb (begins_with k y) 3) line
    (cond (eqb (begins_with k y) 0) (packet_from 0 (i + 1) (i + 1) ys) (packet_from (begins_with k y) line (i + 1) ys))

abbrev pub packet_of : List ℕ → ℕ
packet_of t = packet_from 0 0 0 t
