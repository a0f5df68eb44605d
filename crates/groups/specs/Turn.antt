-- What comes of a character: where the list stands, and how many octets there are; or why the text is no list; or that there is no room. Assumes nothing:
-- these are definitions.
use Rattle.std.specs.Prelude.{ℕ}
use Rattle.groups.specs.State.{State}

pub data Turn : Type 0 where
  Go : State → ℕ → Turn
  Bad : ℕ → Turn
  Long : Turn
