-- The octets defined for a sheet, by what writing answers (RULES D2): `defined-octets` says that they are those of its records. Assumes nothing: these
-- are definitions.
use Rattle.std.specs.Prelude.{◌≡◌, List, ℕ, ◌≤◌, ◌<◌, length}
use Rattle.numbers.specs.Refusal as refusal
use Rattle.written.specs.Writing.{write_of}
use Rattle.answers.specs.Answers.{refuse, written}

-- the octets defined for a sheet: writing gives them wherever they have room, and answers 5 where they have none
pub record Defined (s octets : List ℕ) : Type 0 where
  pub enough : (room : ℕ) → length octets ≤ room → write_of s room ≡ written octets
  pub little : (room : ℕ) → room < length octets → write_of s room ≡ refuse refusal.room 0
