-- How many octets there are after stars: so many; or why the text is no dump; or that there is no room. Assumes nothing: these are definitions.
use Rattle.std.specs.Prelude.{ℕ}

pub data Reach : Type 0 where
  To : ℕ → Reach
  Bad : ℕ → Reach
  Long : Reach
