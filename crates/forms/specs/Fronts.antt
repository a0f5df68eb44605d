-- Which form the front of a text shows (docs/COMMAND.md, "Input"), in the code's order of tests. The forms: lists with blanks 1, colons 2, commas 3, dashes 4,
-- 0x before each group 5, \\x before each octet 6; dumps of Wireshark 7, od 8, hexdump 9, xxd 10, tcpdump 11. Assumes nothing: these are definitions.
use Rattle.std.specs.Prelude.{Bool, true, false, cond, List, [], ◌∷◌, ◌++◌, ℕ, ◌+◌, ltb, eqb, Option, Some, None}
use Rattle.hexes.specs.Hexes.{digit}
use Rattle.forms.specs.declared.front.Form.{Form}
use Rattle.forms.specs.declared.front.Form.TheVariants as form
use Rattle.forms.specs.declared.front.Phase.{Phase}
use Rattle.forms.specs.declared.front.Phase.TheVariants as phase
use Rattle.forms.specs.declared.front.Front as held

-- a blank within a line
unfoldable pub gap : ℕ → Bool
gap x = cond (eqb x 32) true (cond (eqb x 9) true (eqb x 13))

-- the form of a list by a character that is neither a digit nor a blank
unfoldable pub marked : ℕ → ℕ
marked x = cond (eqb x 58) 2 (cond (eqb x 44) 3 (cond (eqb x 45) 4 1))

-- the form of a dump by the digits of its offset; with others it is a list with blanks
unfoldable pub dumped : ℕ → ℕ
dumped d = cond (eqb d 4) 7 (cond (eqb d 6) 8 (cond (eqb d 8) 9 1))

-- ---- what has been seen

-- the front stands before: the first group 0, the rest of it 1, the rest of one that begins with 0x 2, what follows its colon 3, the second group 4, the rest
-- of it 5, any character of a list 6
pub record Front : Type 0 where
  pub phase : ℕ
  pub digits : ℕ
  pub zero : Bool
  pub second : ℕ
  -- the form, or 0 while it is not known
  pub form : ℕ

abbrev front : ℕ → ℕ → Bool → ℕ → ℕ → Front
front p d z n f = record { phase = p; digits = d; zero = z; second = n; form = f }

abbrev pub begun : Front
begun = front 0 0 false 0 0

abbrev pub to : ℕ → Front → Front
to p s = front p s.digits s.zero s.second s.form

abbrev pub is : ℕ → Front → Front
is f s = front s.phase s.digits s.zero s.second f

-- a character of a list
unfoldable pub list : ℕ → Front → Front
list x s = cond (digit x) (to 6 s) (cond (gap x) (to 6 s) (cond (eqb x 10) (to 6 s) (is (marked x) s)))

-- before the first group
abbrev beginning : Bool → Front → Front
beginning z s = front 1 1 z s.second s.form

unfoldable pub lead : ℕ → Front → Front
lead x s =
    cond (digit x) (beginning (eqb x 48) s)
    (cond (gap x) s
    (cond (eqb x 10) s
    (cond (eqb x 92) (is 6 s) (cond (eqb x 34) (is 6 s) (is 1 s)))))

-- an x after the first group: its 0 was that of 0x
unfoldable pub ex : Front → Front
ex s = cond s.zero (cond (eqb s.digits 1) (to 2 s) (is 1 s)) (is 1 s)

-- one digit more of the first group; they are counted to 9
unfoldable pub digit_on : Front → Front
digit_on s = cond (ltb s.digits 9) (front s.phase (s.digits + 1) s.zero s.second s.form) s

unfoldable pub first : ℕ → Front → Front
first x s =
    cond (digit x) (digit_on s)
    (cond (eqb x 120) (ex s)
    (cond (eqb x 88) (ex s)
    (cond (eqb x 58) (to 3 s) (cond (gap x) (to 4 s) (list x s)))))

-- after 0x: an offset, where a colon follows its digits
unfoldable pub prefix : ℕ → Front → Front
prefix x s = cond (digit x) s (cond (eqb x 58) (is 11 s) (is 5 s))

-- after the colon: the first group was an offset of 8 digits, where no digit follows
unfoldable pub colon : ℕ → Front → Front
colon x s = cond (eqb s.digits 8) (cond (digit x) (is 2 s) (is 10 s)) (is 2 s)

-- after the first group and a blank
unfoldable pub gap_on : ℕ → Front → Front
gap_on x s = cond (digit x) (front 5 s.digits s.zero 1 s.form) (cond (gap x) s (list x s))

-- after a digit of the second group: the first may be an offset, where this one has two digits; else they are groups of a list with blanks
unfoldable pub second_on : ℕ → Front → Front
second_on x s =
    cond (digit x)
    (cond (eqb s.second 1) (front s.phase s.digits s.zero 2 s.form) (is 1 s))
    (cond (eqb s.second 1) (is 1 s) (is (dumped s.digits) s))

-- ---- by where it stands

unfoldable pub early : ℕ → Front → Front
early x s = cond (eqb s.phase 0) (lead x s) (cond (eqb s.phase 1) (first x s) (prefix x s))

unfoldable pub late : ℕ → Front → Front
late x s = cond (eqb s.phase 3) (colon x s) (cond (eqb s.phase 4) (gap_on x s) (cond (eqb s.phase 5) (second_on x s) (list x s)))

unfoldable pub after : ℕ → Front → Front
after x s = cond (ltb s.phase 3) (early x s) (late x s)

-- ---- a text, and a line break after it

abbrev told : Front → ℕ → ℕ
told s next = cond (eqb s.form 0) next s.form

unfoldable pub form_from : Front → List ℕ → ℕ
form_from s [] = 1
form_from s (x ∷ xs) = told (after x s) (form_from (after x s) xs)

unfoldable pub form_of : List ℕ → ℕ
form_of t = form_from begun (t ++ (10 ∷ []))

-- ---- the same in src/

-- the number of a form
abbrev pub number_of : Form → ℕ
number_of form.Blanks = 1
number_of form.Colons = 2
number_of form.Commas = 3
number_of form.Dashes = 4
number_of form.Prefixes = 5
number_of form.Escapes = 6
number_of form.Wireshark = 7
number_of form.Od = 8
number_of form.Hexdump = 9
number_of form.Xxd = 10
number_of form.Tcpdump = 11

-- that of a form that may not be known yet
abbrev pub number_in : Option Form → ℕ
number_in None = 0
number_in (Some f) = number_of f

-- the number of a phase
abbrev pub place_of : Phase → ℕ
place_of phase.Lead = 0
place_of phase.First = 1
place_of phase.Prefix = 2
place_of phase.Colon = 3
place_of phase.Gap = 4
place_of phase.Second = 5
place_of phase.List = 6

abbrev pub front_in : held.Front → Front
front_in s = front (place_of s.phase) s.digits s.zero s.second (number_in s.form)
