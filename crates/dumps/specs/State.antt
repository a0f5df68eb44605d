-- The state of a dump, its mode and why it is refused by their numbers (`Mode`, `Why`). Assumes nothing: these are definitions.
use Rattle.std.specs.Prelude.{Bool, ℕ}

pub record State : Type 0 where
  pub mode : ℕ
  -- digits of the offset so far, and their value
  pub digits : ℕ
  pub value : ℕ
  -- the first digit of an octet, then the octet, and whether it is the second of its group
  pub octet : ℕ
  pub second : Bool
  -- the first octet of the line, and of the line before it
  pub line : ℕ
  pub before : ℕ
  -- the octet that the text column shows next, and the end of those that it has to show
  pub beside : ℕ
  pub solid : ℕ
  -- whether a star stands before the line, and up to which octet stars have stood for octets
  pub star : Bool
  pub upto : ℕ
  -- whether an offset stood alone, which ends the dump
  pub ended : Bool
  -- whether a line has had a text column
  pub column : Bool
  -- why the text is no dump, or 0
  pub why : ℕ
