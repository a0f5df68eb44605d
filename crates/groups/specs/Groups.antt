-- What a text is read as that is to be a list: its characters one after the other, and a line break after the last. Assumes nothing: these are
-- definitions.
use Rattle.std.specs.Prelude.{◌≡◌, cond, List, [], ◌∷◌, ◌++◌, ℕ, ◌+◌, leb, eqb, length, set}
use Rattle.inputs.specs.Read.{Read, Octets, Bad, Long}
use Rattle.groups.specs.declared.Kind.{Kind}
use Rattle.groups.specs.Turn.{Turn}
use Rattle.groups.specs.Turn as turns
use Rattle.groups.specs.State.{State}
use Rattle.groups.specs.States.{begun, moved}

-- What comes of a character, and the buffer then
pub record After : Type 0 where
  pub turn : Turn
  pub out : List ℕ

abbrev pub after : Turn → List ℕ → After
after t out = record { turn = t; out = out }

-- an octet that is complete is laid at n
abbrev pub lay_of : State → ℕ → List ℕ → After
lay_of s n out =
    cond s.complete
    (cond (leb (length out) n) (after turns.Long out) (after (turns.Go s (n + 1)) (set out n s.octet)))
    (after (turns.Go s n) out)

-- ---- a character

abbrev pub settled : State → ℕ → List ℕ → After
settled s n out = cond (eqb s.why 0) (lay_of s n out) (after (turns.Bad s.why) out)

unfoldable pub take_of : Kind → State → ℕ → ℕ → List ℕ → After
take_of f s x n out = settled (moved f x s) n out

pub record Turned (a : After) (r : Turn) (out' : List ℕ) : Type 0 where
  pub answered : r ≡ a.turn
  pub leaves : out' ≡ a.out

-- ---- a text

pub record Ended : Type 0 where
  pub read : Read
  pub out : List ℕ

abbrev pub ended : Read → List ℕ → Ended
ended r out = record { read = r; out = out }

abbrev pub onward : Turn → ℕ → List ℕ → (State → ℕ → Ended) → Ended
onward (turns.Go s n) i out next = next s n
onward (turns.Bad w) i out next = ended (Bad i w) out
onward turns.Long i out next = ended Long out

-- the characters from the i-th on
unfoldable pub read_from : Kind → State → ℕ → ℕ → List ℕ → List ℕ → Ended
read_from f s n i out [] = ended (Octets n) out
read_from f s n i out (x ∷ xs) =
    onward (take_of f s x n out).turn i (take_of f s x n out).out (λ t m. read_from f t m (i + 1) (take_of f s x n out).out xs)

unfoldable pub read_of : Kind → List ℕ → List ℕ → Ended
read_of f text out = read_from f begun 0 0 out (text ++ (10 ∷ []))

pub record Grouped (f : Kind) (text out : List ℕ) (r : Read) (out' : List ℕ) : Type 0 where
  pub answered : r ≡ (read_of f text out).read
  pub leaves : out' ≡ (read_of f text out).out
