-- What comes of a character: where the dump stands, and how many octets there are; or why the text is no dump; or that there is no room.
-- Assumes nothing: these are definitions.
use Rattle.std.specs.Prelude.{ℕ}
use Rattle.dumps.specs.State.{State}

pub data Turn : Type 0 where
  Go : State → ℕ → Turn
  Bad : ℕ → Turn
  Long : Turn
