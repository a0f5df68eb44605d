-- What a text is read as that is to be a dump: its characters one after the other, and a line break after the last. Assumes nothing: these are
-- definitions.
use Rattle.std.specs.Prelude.{◌≡◌, cond, List, [], ◌∷◌, ◌++◌, ℕ, zero, suc, ◌+◌, ◌-◌, ◌%◌, ltb, leb, eqb, length, get_or, set}
use Rattle.inputs.specs.Why as why
use Rattle.inputs.specs.Read.{Read, Octets, Bad, Long}
use Rattle.dumps.specs.declared.Style.{Style}
use Rattle.dumps.specs.Reach.{Reach}
use Rattle.dumps.specs.Reach as reach
use Rattle.dumps.specs.Turn.{Turn}
use Rattle.dumps.specs.Turn as turns
use Rattle.dumps.specs.State.{State}
use Rattle.dumps.specs.Mode as mode
use Rattle.dumps.specs.States.{begun, moved}

-- ---- the octets

-- k octets from n on are those from `from` on
unfoldable pub repeated_of : ℕ → ℕ → ℕ → List ℕ → List ℕ
repeated_of zero from n out = out
repeated_of (suc k) from n out = repeated_of k (from + 1) (n + 1) (set out n (get_or out from 0))

-- What comes of a character, and the buffer then
pub record After : Type 0 where
  pub turn : Turn
  pub out : List ℕ

abbrev after : Turn → List ℕ → After
after t out = record { turn = t; out = out }

-- an octet that is complete is laid at n
unfoldable pub lay_of : State → ℕ → List ℕ → After
lay_of s n out =
    cond (eqb s.mode mode.low)
    (cond (leb (length out) n) (after turns.Long out) (after (turns.Go s (n + 1)) (set out n s.octet)))
    (after (turns.Go s n) out)

-- stars stand for whole lines like the one before them, which begins at `from`, up to `upto`
pub record FilledTo : Type 0 where
  pub fill : Reach
  pub out : List ℕ

abbrev filled_to : Reach → List ℕ → FilledTo
filled_to r out = record { fill = r; out = out }

unfoldable pub fill_of : ℕ → ℕ → ℕ → List ℕ → FilledTo
fill_of from n upto out =
    cond (leb upto n) (filled_to (reach.To n) out)
    (cond (leb n from) (filled_to (reach.Bad why.offset) out)
    (cond (eqb ((upto - n) % (n - from)) 0)
    (cond (ltb (length out) upto) (filled_to reach.Long out) (filled_to (reach.To upto) (repeated_of (upto - n) from n out)))
    (filled_to (reach.Bad why.offset) out)))

pub record Filled (from n upto : ℕ) (out : List ℕ) (r : Reach) (out' : List ℕ) : Type 0 where
  pub answered : r ≡ (fill_of from n upto out).fill
  pub leaves : out' ≡ (fill_of from n upto out).out

-- ---- a character

abbrev pub lay_by : Reach → State → List ℕ → After
lay_by (reach.To m) s out = lay_of s m out
lay_by (reach.Bad w) s out = after (turns.Bad w) out
lay_by reach.Long s out = after turns.Long out

unfoldable pub settled : State → ℕ → List ℕ → After
settled s n out =
    cond (eqb s.why 0)
    (lay_by (fill_of s.before n s.upto out).fill s (fill_of s.before n s.upto out).out)
    (after (turns.Bad s.why) out)

unfoldable pub take_of : Style → State → ℕ → ℕ → List ℕ → After
take_of f s x n out = settled (moved f x n (get_or out s.beside 0) s) n out

pub record Turned (a : After) (r : Turn) (out' : List ℕ) : Type 0 where
  pub answered : r ≡ a.turn
  pub leaves : out' ≡ a.out

-- ---- a text

pub record Ended : Type 0 where
  pub read : Read
  pub out : List ℕ

abbrev pub ended : Read → List ℕ → Ended
ended r out = record { read = r; out = out }

-- at the end no star may stand that nothing follows
abbrev pub end_of : State → ℕ → ℕ → List ℕ → Ended
end_of s n size out = cond s.star (ended (Bad size why.form) out) (ended (Octets n) out)

abbrev pub onward : Turn → ℕ → List ℕ → (State → ℕ → Ended) → Ended
onward (turns.Go s n) i out next = next s n
onward (turns.Bad w) i out next = ended (Bad i w) out
onward turns.Long i out next = ended Long out

-- the characters from the i-th on of a text of `size`
unfoldable pub read_from : Style → State → ℕ → ℕ → ℕ → List ℕ → List ℕ → Ended
read_from f s n size i out [] = end_of s n size out
read_from f s n size i out (x ∷ xs) =
    onward (take_of f s x n out).turn i (take_of f s x n out).out (λ t m. read_from f t m size (i + 1) (take_of f s x n out).out xs)

unfoldable pub read_of : Style → List ℕ → List ℕ → Ended
read_of f text out = read_from f begun 0 (length text) 0 out (text ++ (10 ∷ []))

pub record Dumped (f : Style) (text out : List ℕ) (r : Read) (out' : List ℕ) : Type 0 where
  pub answered : r ≡ (read_of f text out).read
  pub leaves : out' ≡ (read_of f text out).out
