-- What a text is read as (docs/COMMAND.md, "Input"): in the form that its front shows; or, where that is a list and the text leaves it on its first line, as
-- a dump after a packet's head, or as an array. Assumes nothing: these are definitions.
use Rattle.std.specs.Prelude.{◌≡◌, Bool, true, false, cond, List, ℕ, ◌+◌, ltb, leb, eqb, length, drop, Option, Some, None}
use Rattle.inputs.specs.Why as why
use Rattle.inputs.specs.Read.{Read, Octets, Bad, Long}
use Rattle.groups.specs.declared.Kind.{Kind}
use Rattle.groups.specs.Groups as groups
use Rattle.groups.specs.Escapes as escapes
use Rattle.dumps.specs.declared.Style.{Style}
use Rattle.dumps.specs.Dumps as dumps
use Rattle.forms.specs.Places.{place_of, begin_of, brace_of, packet_of}
use Rattle.forms.specs.Fronts.{form_of}
use Rattle.forms.specs.Arrays as arrays

-- ---- the forms as data

-- dumps whose offsets stand before a blank, whose text column may be fenced, and that may end in an offset alone
abbrev pub bare : ℕ → Option ℕ → Option ℕ → Bool → Bool → Style
bare d a b k e = record { digits = d; prefix = false; colon = false; pairs = false; opening = a; closing = b; column = k; ends = e }

-- dumps whose offsets stand before a colon
abbrev pub colon : ℕ → Bool → Style
colon d p = record { digits = d; prefix = p; colon = true; pairs = true; opening = None; closing = None; column = false; ends = false }

-- Wireshark and tshark -x; od -Ax -tx1, with z > and <; hexdump -C, with |; xxd; tcpdump -x
unfoldable pub style_of : ℕ → Style
style_of f =
    cond (eqb f 7) (bare 4 None None false false)
    (cond (eqb f 8) (bare 6 (Some 62) (Some 60) false true)
    (cond (eqb f 9) (bare 8 (Some 124) (Some 124) true true)
    (cond (eqb f 10) (colon 8 false) (colon 4 true))))

abbrev pub marked : ℕ → Bool → Kind
marked m s = record { prefix = false; mark = m; marked = true; single = s; lines = false; whole = false }

-- colons, commas, dashes, 0x; blanks
unfoldable pub kind_of : ℕ → Kind
kind_of f =
    cond (eqb f 2) (marked 58 true)
    (cond (eqb f 3) (marked 44 false)
    (cond (eqb f 4) (marked 45 false)
    (cond (eqb f 5)
    (record { prefix = true; mark = 44; marked = false; single = true; lines = false; whole = true })
    (record { prefix = false; mark = 0; marked = false; single = false; lines = true; whole = false }))))

-- ---- reading

-- what is answered, and the buffer then
pub record Answer : Type 0 where
  pub read : Read
  pub out : List ℕ

abbrev pub answer : Read → List ℕ → Answer
answer r out = record { read = r; out = out }

pub record Answered (a : Answer) (r : Read) (out' : List ℕ) : Type 0 where
  pub answered : r ≡ a.read
  pub leaves : out' ≡ a.out

-- a text in a form
abbrev pub of_groups : groups.Ended → Answer
of_groups e = answer e.read e.out

abbrev of_escapes : escapes.Ended → Answer
of_escapes e = answer e.read e.out

abbrev pub of_dumps : dumps.Ended → Answer
of_dumps e = answer e.read e.out

unfoldable pub as_of : ℕ → List ℕ → List ℕ → Answer
as_of f t out =
    cond (ltb f 6) (of_groups (groups.read_of (kind_of f) t out))
    (cond (eqb f 6) (of_escapes (escapes.read_of t out)) (of_dumps (dumps.read_of (style_of f) t out)))

-- a list, and no dump
unfoldable pub list_of : List ℕ → List ℕ → Answer
list_of t out = cond (ltb 6 (form_of t)) (answer (Bad 0 why.form) out) (as_of (form_of t) t out)

-- an array, where a brace says so
unfoldable pub braced_of : ℕ → ℕ → List ℕ → List ℕ → Answer
braced_of at w t out =
    cond (ltb (brace_of t) (length t))
    (answer (arrays.read_of (brace_of t) t out) (arrays.left_of (brace_of t) t out))
    (answer (Bad at w) out)

-- a dump after a packet's head
abbrev pub shifted : ℕ → Read → Read
shifted k (Octets n) = Octets n
shifted k (Bad at w) = Bad (k + at) w
shifted k Long = Long

abbrev pub after : ℕ → dumps.Ended → Answer
after k e = answer (shifted k e.read) e.out

abbrev pub packed : ℕ → ℕ → ℕ → ℕ → List ℕ → List ℕ → Answer
packed k end at w t out =
    cond (leb k end) (braced_of at w t out)
    (cond (eqb k (length t)) (braced_of at w t out) (after k (dumps.read_of (style_of 11) (drop k t) out)))

-- where the first line ends that is not blank
abbrev pub line_end : List ℕ → ℕ
line_end t = place_of 10 (begin_of 0 t) (drop (begin_of 0 t) t)

-- a text whose front shows a list, and that leaves it at `at`
unfoldable pub headed_of : ℕ → ℕ → List ℕ → List ℕ → Answer
headed_of at w t out = cond (ltb (line_end t) at) (answer (Bad at w) out) (packed (packet_of t) (line_end t) at w t out)

-- a text by what its front's form f answers: only of a list something else is tried
abbrev pub or_headed : ℕ → Read → List ℕ → List ℕ → Answer
or_headed f (Octets n) t out = answer (Octets n) out
or_headed f (Bad at w) t out = cond (ltb 6 f) (answer (Bad at w) out) (headed_of at w t out)
or_headed f Long t out = answer Long out

unfoldable pub read_of : List ℕ → List ℕ → Answer
read_of t out = or_headed (form_of t) (as_of (form_of t) t out).read t (as_of (form_of t) t out).out
