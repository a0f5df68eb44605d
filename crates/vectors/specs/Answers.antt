-- What the program answers to a line (host/README.md), as text. Assumes nothing: these are definitions.
use Rattle.std.specs.Prelude.{cond, List, [], ◌∷◌, ◌++◌, ℕ, zero, suc, ltb, leb, eqb, length, get_or, take, drop, Ok, Err}
use Rattle.octets.specs.Lists.{flat}
use Rattle.names.specs.Automaton.{Checked}
use Rattle.names.specs.Wire.{name_check}
use Rattle.texts.specs.Texts.{text_of, wire_of}
use Rattle.texts.specs.TextCheck.{text_check}
use Rattle.addresses.specs.Addresses.{list_of, kept_of, any_of}
use Rattle.svcparams.specs.Params.{params_fault}
use Rattle.hexes.specs.Hexes.{hex_of}
use Rattle.hexes.specs.Decoding.{Answer, written, no_room, other, decode_of}
use Rattle.chars.specs.Ascii.{ascii, decimal_of}
use Rattle.words.specs.Encoded.{break_at}

-- a number after a space
abbrev pub number_text : ℕ → List ℕ
number_text x = 32 ∷ decimal_of x

-- octets in hexadecimal after a space; nothing where there are none
abbrev pub hex_text : List ℕ → List ℕ
hex_text s = cond (eqb (length s) 0) [] (32 ∷ hex_of s)

-- a name that is good, with its other form, or bad, with the place
abbrev pub good_text : List ℕ → List ℕ
good_text form = ascii " ok" ++ hex_text form

abbrev pub bad_text : ℕ → List ℕ
bad_text place = ascii " bad" ++ number_text place

abbrev pub name_text : List ℕ → Checked → List ℕ
name_text form (Ok tt) = good_text form
name_text form (Err place) = bad_text place

-- how many addresses of w octets are kept, whether one is dropped, and those that are kept
abbrev pub drops_of : ℕ → List ℕ → ℕ
drops_of w s = cond (any_of w (list_of w s)) 1 0

abbrev pub kept_text : ℕ → List ℕ → List ℕ
kept_text w s = hex_text (flat (kept_of w (list_of w s)))

unfoldable pub addresses_text : ℕ → List ℕ → List ℕ
addresses_text w s = number_text (length (kept_of w (list_of w s))) ++ (number_text (drops_of w s) ++ kept_text w s)

-- what follows the letter w, t, a, b or p; nothing after another
unfoldable pub answer_text : ℕ → List ℕ → List ℕ
answer_text letter s =
    cond (eqb letter 119) (name_text (text_of s) (name_check s))
    (cond (eqb letter 116) (name_text (wire_of s) (text_check s))
    (cond (eqb letter 97) (addresses_text 4 s)
    (cond (eqb letter 98) (addresses_text 16 s)
    (cond (eqb letter 112) (number_text (params_fault s)) []))))

abbrev pub case_text : ℕ → List ℕ → List ℕ
case_text letter s = letter ∷ answer_text letter s

-- ---- a line

abbrev pub known : ℕ → ℕ
known x = cond (eqb x 119) x (cond (eqb x 116) x (cond (eqb x 97) x (cond (eqb x 98) x (cond (eqb x 112) x 63))))

-- the letter of a line that begins as a case does, and `?` for any other
abbrev pub letter_of : List ℕ → ℕ
letter_of line = cond (ltb (length line) 2) 63 (cond (eqb (get_or line 1 0) 32) (known (get_or line 0 0)) 63)

-- octets in hexadecimal, at most 4,096
abbrev pub decoded_text : ℕ → Answer → List ℕ
decoded_text letter (written bs) = case_text letter bs
decoded_text letter no_room = 63 ∷ []
decoded_text letter other = 63 ∷ []

unfoldable pub line_text : List ℕ → List ℕ
line_text line = cond (leb (length line) 2) (case_text (letter_of line) []) (decoded_text (letter_of line) (decode_of (drop 2 line) 4096))

-- ---- the lines of the input

-- the answers from the line on that begins after j octets, each ended by a line break
unfoldable pub answers_from : ℕ → List ℕ → List ℕ
answers_from j [] = []
answers_from zero (x ∷ t) = line_text (take (break_at (x ∷ t)) (x ∷ t)) ++ (10 ∷ answers_from (break_at (x ∷ t)) t)
answers_from (suc j) (x ∷ t) = answers_from j t

abbrev pub answers_text : List ℕ → List ℕ
answers_text s = answers_from 0 s
