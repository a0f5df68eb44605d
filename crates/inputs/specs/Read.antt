-- What was read into a buffer: so many octets; or why not, by its number (`Why`), and at which character; or that they are more than the buffer
-- holds. Assumes nothing: these are definitions.
use Rattle.std.specs.Prelude.{ℕ, ◌+◌, Result, Ok, Err}
use Rattle.inputs.specs.Why as why
use Rattle.inputs.specs.declared.Unread.{Unread}
use Rattle.inputs.specs.declared.Unread.TheVariants as unread

pub data Read : Type 0 where
  Octets : ℕ → Read
  Bad : ℕ → ℕ → Read
  Long : Read

-- the same of an answer of src/: no two are said alike, since no two reasons have one number
abbrev pub read_in : Result ℕ Unread → Read
read_in (Ok n) = Octets n
read_in (Err (unread.Bad at w)) = Bad at (why.number_of w)
read_in (Err unread.Long) = Long

-- why not, as an answer
abbrev pub unread_in : Unread → Read
unread_in u = read_in (Err u)

-- the character at which something is wrong; 0 where nothing is
abbrev pub place_in : Read → ℕ
place_in (Octets n) = 0
place_in (Bad at w) = at
place_in Long = 0

-- the same, its place counted from k characters further back
abbrev pub back : ℕ → Read → Read
back k (Octets n) = Octets n
back k (Bad at w) = Bad (k + at) w
back k Long = Long
