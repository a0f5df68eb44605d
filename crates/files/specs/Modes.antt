-- The mode of a file (POSIX sys/stat.h): its kind above three octal digits, the permissions of its owner, its group and all others.
-- Assumes nothing: these are definitions.
use Rattle.std.specs.Prelude.{Bool, ℕ, ◌+◌, ◌*◌, ◌/◌, ◌%◌, eqb}
use Rattle.std.specs.Int.Bits.{bit_and}

-- S_IFREG
abbrev pub regular : ℕ → Bool
regular mode = eqb (mode / 4096 % 16) 8

abbrev pub permissions : ℕ → ℕ
permissions mode = mode % 512

-- where the group is another: the owner's digit stays, and the other two are what group and others both may
abbrev pub narrowed : ℕ → ℕ
narrowed mode = mode / 64 % 8 * 64 + bit_and (mode / 8) mode % 8 * 9
