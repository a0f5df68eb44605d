-- Where a dump stands, and how a character moves it (docs/COMMAND.md, "Dumps"), in the code's order of tests. x is the character, n the number of octets
-- before it, b the octet that the text column shows next. Assumes nothing: these are definitions.
use Rattle.std.specs.Prelude.{Bool, true, false, cond, ℕ, ◌+◌, ◌*◌, ◌%◌, ltb, leb, eqb, Option, Some, None}
use Rattle.std.specs.Option.{is_none}
use Rattle.hexes.specs.Hexes.{digit}
use Rattle.hexes.specs.Hexes as hexes
use Rattle.inputs.specs.Why as why
use Rattle.dumps.specs.declared.Style.{Style}
use Rattle.dumps.specs.State.{State}
use Rattle.dumps.specs.Class.{Class}
use Rattle.dumps.specs.Class.{Break, Blank, Digit, Other}
use Rattle.dumps.specs.Mode as mode

-- ---- characters

unfoldable pub class_of : ℕ → Class
class_of x =
    cond (digit x) Digit (cond (eqb x 10) Break (cond (eqb x 32) Blank (cond (eqb x 9) Blank (cond (eqb x 13) Blank Other))))

-- the character that a text column has for an octet: itself where it is printed, else a dot, as a blank is where `dot`
unfoldable pub shown_of : Bool → ℕ → ℕ
shown_of dot b = cond (ltb b 32) 46 (cond (ltb 126 b) 46 (cond dot (cond (eqb b 32) 46 b) b))

-- ---- the state

abbrev state : ℕ → ℕ → ℕ → ℕ → Bool → ℕ → ℕ → ℕ → ℕ → Bool → ℕ → Bool → Bool → ℕ → State
state m d v o g l b e z t u q k w = record {
  mode = m;
  digits = d;
  value = v;
  octet = o;
  second = g;
  line = l;
  before = b;
  beside = e;
  solid = z;
  star = t;
  upto = u;
  ended = q;
  column = k;
  why = w;
}

abbrev pub begun : State
begun = state mode.start 0 0 0 false 0 0 0 0 false 0 false false 0

abbrev pub but : ℕ → State → State
but w s =
    state s.mode s.digits s.value s.octet s.second s.line s.before s.beside s.solid s.star s.upto s.ended s.column w

abbrev pub to : ℕ → State → State
to m s =
    state m s.digits s.value s.octet s.second s.line s.before s.beside s.solid s.star s.upto s.ended s.column s.why

-- ---- a line's front: blanks, then an offset or a star

-- of the offset d digits are read, of the value v
abbrev pub reading : ℕ → ℕ → State → State
reading d v s =
    state s.mode d v s.octet s.second s.line s.before s.beside s.solid s.star s.upto s.ended s.column s.why

-- its first digit, or the 0 of 0x; after an offset that stood alone there is none
abbrev pub first_of : Style → ℕ → ℕ → State → State
first_of f x v s =
    cond s.ended (but why.offset s)
    (cond f.prefix (cond (eqb x 48) (to mode.prefix s) (but why.form s))
    (to mode.offset (reading 1 v s)))

unfoldable pub first : Style → ℕ → State → State
first f x s = first_of f x (hexes.value x) s

unfoldable pub prefixed : ℕ → State → State
prefixed x s = cond (eqb x 120) (to mode.offset (reading 0 0 s)) (but why.form s)

-- a further digit; no input has 65,536 octets
abbrev pub further_of : Style → ℕ → State → State
further_of f v s =
    cond (leb f.digits s.digits) (but why.form s)
    (cond (ltb 65535 s.value) (but why.offset s)
    (reading (s.digits + 1) (16 * s.value + v) s))

unfoldable pub further : Style → ℕ → State → State
further f x s = further_of f (hexes.value x) s

-- the octets begin, the first of them the n-th
abbrev pub opened : ℕ → State → State
opened n s =
    state mode.after s.digits s.value s.octet s.second n s.before n n s.star s.upto s.ended s.column s.why

-- stars stand for octets up to the n-th
abbrev pub filled : ℕ → State → State
filled n s =
    state s.mode s.digits s.value s.octet s.second s.line s.before s.beside s.solid false n s.ended s.column s.why

-- the offset is whole: it is the number of octets before its line, or after a star a greater one
unfoldable pub counted : Style → ℕ → State → State
counted f n s =
    cond (eqb s.digits f.digits)
    (cond s.star
    (cond (leb s.value n) (but why.offset s) (opened s.value (filled s.value s)))
    (cond (eqb s.value n) (opened n s) (but why.offset s)))
    (but why.form s)

-- the dump ends
abbrev pub finished : State → State
finished s =
    state mode.start s.digits s.value s.octet s.second s.line s.before s.beside s.solid s.star s.upto true s.column s.why

-- an offset stands alone, which ends the dump where the style has such an end
unfoldable pub alone : Style → State → State
alone f s = cond f.ends (finished s) (but why.form s)

-- what follows an offset's digits
abbrev pub offset_by : Class → Style → ℕ → ℕ → State → State
offset_by Digit f x n s = further f x s
offset_by Break f x n s = alone f (counted f n s)
offset_by Blank f x n s = cond f.colon (but why.form s) (counted f n s)
offset_by Other f x n s = cond f.colon (cond (eqb x 58) (to mode.gap (counted f n s)) (but why.form s)) (but why.form s)

abbrev pub offset : Style → ℕ → ℕ → State → State
offset f x n s = offset_by (class_of x) f x n s

-- what follows a colon
abbrev pub gap_by : Class → Style → State → State
gap_by Break f s = alone f s
gap_by Blank f s = to mode.after s
gap_by Digit f s = but why.form s
gap_by Other f s = but why.form s

abbrev pub gap : Style → ℕ → State → State
gap f x s = gap_by (class_of x) f s

-- a star, after a line that it can stand for; after an offset that stood alone there is none
unfoldable pub star_at : ℕ → State → State
star_at x s =
    cond (eqb x 42)
    (cond s.ended (but why.form s) (cond s.star (but why.form s) (cond (leb s.line s.before) (but why.form s) (to mode.star s))))
    (but why.form s)

abbrev pub start_by : Class → Style → ℕ → State → State
start_by Break f x s = s
start_by Blank f x s = s
start_by Digit f x s = first f x s
start_by Other f x s = star_at x s

abbrev pub start : Style → ℕ → State → State
start f x s = start_by (class_of x) f x s

-- what follows a star
abbrev pub starred_by : Class → State → State
starred_by Break s =
    state mode.start s.digits s.value s.octet s.second s.line s.before s.beside s.solid true s.upto s.ended s.column s.why
starred_by Blank s = s
starred_by Digit s = but why.form s
starred_by Other s = but why.form s

abbrev pub starred : ℕ → State → State
starred x s = starred_by (class_of x) s

-- ---- its octets

-- the first digit of an octet, which may be the second of its group
abbrev pub high_of : Bool → ℕ → State → State
high_of g v s =
    state mode.high s.digits s.value v g s.line s.before s.beside s.solid s.star s.upto s.ended s.column s.why

abbrev pub high : Bool → ℕ → State → State
high g x s = high_of g (hexes.value x) s

-- the n-th octet is o. Where the column shows it as a blank: at the line's front the column may begin after it, and at its end the column need not show it.
abbrev pub complete : ℕ → State → State
complete o s =
    state mode.low s.digits s.value o s.second s.line s.before s.beside s.solid s.star s.upto s.ended s.column s.why

abbrev pub showing : ℕ → State → State
showing n s =
    state s.mode s.digits s.value s.octet s.second s.line s.before s.beside (n + 1) s.star s.upto s.ended s.column s.why

-- the column shows the e-th octet next
abbrev pub column : ℕ → State → State
column e s =
    state s.mode s.digits s.value s.octet s.second s.line s.before e s.solid s.star s.upto s.ended s.column s.why

abbrev pub passing : ℕ → State → State
passing n s = cond (eqb s.beside n) (column (n + 1) s) s

abbrev pub completed : Style → ℕ → ℕ → State → State
completed f o n s = complete o (cond (eqb (shown_of f.prefix o) 32) (passing n s) (showing n s))

unfoldable pub low : Style → ℕ → ℕ → State → State
low f x n s = cond (digit x) (completed f (s.octet % 16 * 16 + hexes.value x) n s) (but why.form s)

-- the line ends
abbrev pub closed : ℕ → State → State
closed n s =
    state mode.start s.digits s.value s.octet s.second n s.line s.beside s.solid s.star s.upto s.ended s.column s.why

-- with a text column, so that every further line has one
abbrev pub columned : ℕ → State → State
columned n s =
    state mode.start s.digits s.value s.octet s.second n s.line s.beside s.solid s.star s.upto s.ended true s.why

-- without one: its octets are all shown as blanks, or there is no column in the dump so far, and the form does not ask for one
unfoldable pub cut : Style → ℕ → State → State
cut f n s =
    cond (leb s.solid s.line) (closed n s)
    (cond f.column (but why.column s) (cond s.column (but why.column s) (closed n s)))

-- what follows an octet
abbrev pub octet_by : Class → Style → ℕ → ℕ → State → State
octet_by Break f x n s = cut f n s
octet_by Blank f x n s = to mode.one s
octet_by Digit f x n s = cond f.pairs (cond s.second (but why.form s) (high true x s)) (but why.form s)
octet_by Other f x n s = but why.form s

abbrev pub octet : Style → ℕ → ℕ → State → State
octet f x n s = octet_by (class_of x) f x n s

-- what follows the offset
abbrev pub after_by : Class → Style → ℕ → State → State
after_by Break f x s = alone f s
after_by Blank f x s = s
after_by Digit f x s = high false x s
after_by Other f x s = but why.form s

abbrev pub after : Style → ℕ → State → State
after f x s = after_by (class_of x) f x s

-- what follows an octet and one blank
abbrev pub one_by : Class → Style → ℕ → ℕ → State → State
one_by Break f x n s = cut f n s
one_by Blank f x n s = to mode.more s
one_by Digit f x n s = high false x s
one_by Other f x n s = but why.form s

abbrev pub one : Style → ℕ → ℕ → State → State
one f x n s = one_by (class_of x) f x n s

-- ---- its text column

-- after all octets: what closes the column, or a blank where nothing does
abbrev pub past_by : Option ℕ → ℕ → State → State
past_by None x s = cond (eqb x 32) s (but why.column s)
past_by (Some c) x s = cond (eqb x c) (to mode.closed s) (but why.column s)

unfoldable pub past : Style → ℕ → State → State
past f x s = past_by f.closing x s

-- a character of the column
unfoldable pub beside : Style → ℕ → ℕ → ℕ → State → State
beside f x n b s = cond (leb n s.beside) (past f x s) (cond (eqb x (shown_of f.prefix b)) (to mode.text (column (s.beside + 1) s)) (but why.column s))

-- what stands before the column
abbrev pub fenced_by : Option ℕ → ℕ → State → State
fenced_by None x s = but why.form s
fenced_by (Some o) x s = cond (eqb x o) (to mode.text (column s.line s)) (but why.form s)

unfoldable pub fenced : Style → ℕ → State → State
fenced f x s = fenced_by f.opening x s

-- what follows an octet and two blanks or more
abbrev pub more_by : Class → Style → ℕ → ℕ → ℕ → State → State
more_by Break f x n b s = cut f n s
more_by Blank f x n b s = s
more_by Digit f x n b s = cond (is_none f.opening) (beside f x n b s) (high false x s)
more_by Other f x n b s = cond (is_none f.opening) (beside f x n b s) (fenced f x s)

abbrev pub more : Style → ℕ → ℕ → ℕ → State → State
more f x n b s = more_by (class_of x) f x n b s

-- the column ends with its line; blanks at its end may be missing where nothing closes it
unfoldable pub broken : Style → ℕ → State → State
broken f n s = cond (is_none f.closing) (cond (ltb s.beside s.solid) (but why.column s) (columned n s)) (but why.column s)

-- the rest of the column; a carriage return may stand before a line break
unfoldable pub text : Style → ℕ → ℕ → ℕ → State → State
text f x n b s = cond (eqb x 13) s (cond (eqb x 10) (broken f n s) (beside f x n b s))

-- what follows a closed column
abbrev pub rest_by : Class → ℕ → State → State
rest_by Break n s = columned n s
rest_by Blank n s = s
rest_by Digit n s = but why.form s
rest_by Other n s = but why.form s

abbrev pub rest : ℕ → ℕ → State → State
rest x n s = rest_by (class_of x) n s

-- ---- by where the dump stands

unfoldable pub fronted : Style → ℕ → ℕ → State → State
fronted f x n s =
    cond (eqb s.mode mode.start) (start f x s)
    (cond (eqb s.mode mode.prefix) (prefixed x s)
    (cond (eqb s.mode mode.offset) (offset f x n s)
    (cond (eqb s.mode mode.star) (starred x s) (gap f x s))))

unfoldable pub within : Style → ℕ → ℕ → State → State
within f x n s =
    cond (eqb s.mode mode.after) (after f x s)
    (cond (eqb s.mode mode.high) (low f x n s)
    (cond (eqb s.mode mode.low) (octet f x n s) (one f x n s)))

unfoldable pub behind : Style → ℕ → ℕ → ℕ → State → State
behind f x n b s =
    cond (eqb s.mode mode.more) (more f x n b s)
    (cond (eqb s.mode mode.text) (text f x n b s) (rest x n s))

unfoldable pub moved : Style → ℕ → ℕ → ℕ → State → State
moved f x n b s =
    cond (ltb s.mode mode.after) (fronted f x n s) (cond (ltb s.mode mode.more) (within f x n s) (behind f x n b s))
