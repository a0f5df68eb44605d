-- The state of a list, and why it is refused by its number (`Why`). Assumes nothing: these are definitions.
use Rattle.std.specs.Prelude.{Bool, ℕ}

pub record State : Type 0 where
  -- how much of 0x has been read: 0, 1 or 2 characters
  pub front : ℕ
  -- digits of the group: 0 to 2, and for more 3 where they are odd, 4 where they are even
  pub digits : ℕ
  -- the last digit, or the octet, and whether that was completed by the last character
  pub octet : ℕ
  pub complete : Bool
  -- whether a mark may stand: after a group, on its line
  pub after : Bool
  -- whether a group stands before: on the line, or in the list
  pub some : Bool
  -- whether two such groups have stood, and a group of more than two digits
  pub several : Bool
  pub wide : Bool
  -- why the text is no list, or 0
  pub why : ℕ
