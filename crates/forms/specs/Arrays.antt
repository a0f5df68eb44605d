-- What a C array is read as (docs/FORMS.md, "Lists"): the list between its braces, and what may follow them. Assumes nothing: these are definitions.
use Rattle.std.specs.Prelude.{◌≡◌, Bool, true, false, cond, List, [], ◌∷◌, ◌++◌, ℕ, ◌+◌, ◌-◌, ◌*◌, ltb, leb, eqb, length, take, drop, Result, Ok, Err}
use Rattle.octets.specs.Numbers.{range}
use Rattle.inputs.specs.declared.Why.{Why}
use Rattle.inputs.specs.Why as why
use Rattle.inputs.specs.Read.{Read, Octets, Bad, Long}
use Rattle.groups.specs.declared.Kind.{Kind}
use Rattle.groups.specs.Groups as groups
use Rattle.forms.specs.declared.array.Phase.{Phase}
use Rattle.forms.specs.declared.array.Phase.TheVariants as phases
use Rattle.forms.specs.declared.array.After as held
use Rattle.forms.specs.Places.{blank, place_of}

-- the lists of arrays: 0x before each octet, blanks and commas between them
abbrev pub elements : Kind
elements = record { prefix = true; mark = 44; marked = false; single = true; lines = false; whole = false }

-- ---- the characters after the closing brace

unfoldable pub decimal : ℕ → Bool
decimal x = cond (ltb x 48) false (leb x 57)

unfoldable pub letter : ℕ → Bool
letter x = cond (range 65 90 x) true (range 97 122 x)

-- letters, digits, [, ] and _: of these and of blanks is the declaration of a length, up to its =
unfoldable pub word : ℕ → Bool
word x = cond (decimal x) true (cond (letter x) true (cond (eqb x 91) true (cond (eqb x 93) true (eqb x 95))))

-- ---- after the closing brace

-- the tail stands before: the array's semicolon, or the end 0; the declaration of a length, or the end 1; its = 2; the length 3; the rest of it 4; its
-- semicolon 5; the end 6
pub record After : Type 0 where
  pub phase : ℕ
  pub length : ℕ
  -- why it is no length, or 0
  pub why : ℕ

abbrev pub tail : ℕ → ℕ → ℕ → After
tail p n w = record { phase = p; length = n; why = w }

abbrev pub begun : After
begun = tail 0 0 0

abbrev pub to : ℕ → After → After
to p s = tail p s.length s.why

abbrev pub but : ℕ → After → After
but w s = tail s.phase s.length w

-- to p, where the character is one that may stand here
abbrev pub awaited : Bool → ℕ → After → After
awaited b p s = cond b (to p s) (but why.form s)

-- a digit of the length; no input has 65,536 octets
abbrev pub digit_of : ℕ → After → After
digit_of v s = cond (ltb 65535 s.length) (but why.count s) (tail 4 (10 * s.length + v) s.why)

abbrev pub digit_on : ℕ → After → After
digit_on x s = digit_of (x - 48) s

-- the rest of the length, which is the number n of octets
unfoldable pub digits : ℕ → ℕ → After → After
digits x n s =
    cond (decimal x) (digit_on x s)
    (cond (eqb s.length n) (cond (blank x) (to 5 s) (awaited (eqb x 59) 6 s)) (but why.count s))

-- before the length, at a character that is no blank
unfoldable pub early : ℕ → After → After
early x s =
    cond (eqb s.phase 0) (awaited (eqb x 59) 1 s)
    (cond (eqb s.phase 1) (awaited (word x) 2 s)
    (cond (word x) s (awaited (eqb x 61) 3 s)))

-- at the length and after it, at a character that is no blank
unfoldable pub late : ℕ → After → After
late x s =
    cond (eqb s.phase 3) (cond (decimal x) (digit_on x s) (but why.form s))
    (cond (eqb s.phase 5) (awaited (eqb x 59) 6 s) (but why.form s))

unfoldable pub after : ℕ → ℕ → After → After
after x n s =
    cond (eqb s.phase 4) (digits x n s)
    (cond (blank x) s
    (cond (ltb s.phase 3) (early x s) (late x s)))

-- at the end of the text
unfoldable pub ended_of : ℕ → ℕ → After → Read
ended_of at n s = cond (ltb s.phase 2) (Octets n) (cond (eqb s.phase 6) (Octets n) (Bad at why.form))

abbrev onward : After → ℕ → Read → Read
onward s i next = cond (eqb s.why 0) next (Bad i s.why)

unfoldable pub tail_from : After → ℕ → ℕ → ℕ → List ℕ → Read
tail_from s n size i [] = ended_of size n s
tail_from s n size i (x ∷ xs) = onward (after x n s) i (tail_from (after x n s) n size (i + 1) xs)

-- what follows the closing brace, from the i-th character on
unfoldable pub tail_of : ℕ → ℕ → List ℕ → Read
tail_of i n t = tail_from begun n (length t) i (drop i (t ++ (10 ∷ [])))

-- the closing brace stands at `close`, or is missing
unfoldable pub closed_of : ℕ → ℕ → List ℕ → Read
closed_of close n t = cond (leb (length t) close) (Bad (length t) why.form) (tail_of (close + 1) n t)

-- ---- an array whose opening brace stands before the character at `body`

abbrev pub answer_of : ℕ → ℕ → List ℕ → Read → Read
answer_of body close t (Octets n) = closed_of close n t
answer_of body close t (Bad at w) = Bad (body + at) w
answer_of body close t Long = Long

abbrev pub closing : ℕ → List ℕ → ℕ
closing body t = place_of 125 body (drop body t)

abbrev pub listed : ℕ → List ℕ → List ℕ → groups.Ended
listed body t out = groups.read_of elements (take (closing body t - body) (drop body t)) out

unfoldable pub read_of : ℕ → List ℕ → List ℕ → Read
read_of brace t out = answer_of (brace + 1) (closing (brace + 1) t) t (listed (brace + 1) t out).read

unfoldable pub left_of : ℕ → List ℕ → List ℕ → List ℕ
left_of brace t out = (listed (brace + 1) t out).out

pub record Arrayed (brace : ℕ) (t out : List ℕ) (r : Read) (out' : List ℕ) : Type 0 where
  pub answered : r ≡ read_of brace t out
  pub leaves : out' ≡ left_of brace t out

-- ---- the same in src/

abbrev pub phase_in : Phase → ℕ
phase_in phases.Semicolon = 0
phase_in phases.Declaration = 1
phase_in phases.Equals = 2
phase_in phases.Length = 3
phase_in phases.Digits = 4
phase_in phases.Close = 5
phase_in phases.End = 6

abbrev pub after_in : held.After → After
after_in s = tail (phase_in s.phase) s.length 0

-- a character moves the tail to s, which has a reason only where it is refused
abbrev pub Stepped : Result held.After Why → After → Type 0
Stepped (Ok t) s = after_in t ≡ s
Stepped (Err w) s = why.number_of w ≡ s.why
