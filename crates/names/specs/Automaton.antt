-- A check of octets one after the other, each at its place, in whatever states. Assumes nothing: these are definitions.
use Rattle.std.specs.Prelude.{Bool, cond, List, [], ◌∷◌, ℕ, ◌+◌, Result, Ok, Err}

-- What a check answers: Ok of what is acceptable, or Err of the place, from 0, of the first octet at which nothing acceptable can continue, or
-- of the length where what stands there is cut short
abbrev pub Checked : Type 0
Checked = Result (Unit {0}) ℕ

-- What an octet does: nothing acceptable goes on so, or the check goes on in a state
pub data Move (S : Type 0) : Type 0 where
  stop : Move S
  go : S → Move S

-- The states in which the octets may end, and what an octet does in a state at a place
pub record Automaton (S : Type 0) : Type 0 where
  pub ends : S → Bool
  pub step : S → ℕ → ℕ → Move S

-- What comes of a move: the answer where it stops, and from the next place on
abbrev pub on : {S : Type 0} → Move S → Checked → (S → Checked) → Checked
on stop bad next = bad
on (go st) bad next = next st

-- The octets from the place `at` on
unfoldable pub walk : {S : Type 0} → Automaton S → S → ℕ → List ℕ → Checked
walk a st at [] = cond (a.ends st) (Ok tt) (Err at)
walk a st at (x ∷ xs) = on (a.step st at x) (Err at) (λ st'. walk a st' (at + 1) xs)
