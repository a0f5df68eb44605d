-- What is asked for (docs/COMMAND.md), and the numbers that the table of words has for it (arguments/Tables). Assumes nothing: these are definitions.
use Rattle.std.specs.Prelude.{ℕ, Bool, true, false, cond, eqb, Option, Some, None}
use Rattle.arguments.specs.declared.Command.{Command}
use Rattle.arguments.specs.declared.Command.TheVariants.{Read, Write, Show, Octets, Help, Version}

abbrev pub read : ℕ
read = 1

abbrev pub write : ℕ
write = 2

abbrev pub show : ℕ
show = 3

abbrev pub octets : ℕ
octets = 4

abbrev pub help : ℕ
help = 5

abbrev pub version : ℕ
version = 6

-- the command of a number
abbrev pub of : ℕ → Option Command
of k =
    cond (eqb k read) (Some Read)
    (cond (eqb k write) (Some Write)
    (cond (eqb k show) (Some Show)
    (cond (eqb k octets) (Some Octets)
    (cond (eqb k help) (Some Help)
    (cond (eqb k version) (Some Version)
    None)))))

-- `read`, which alone has a carrier
abbrev pub is_read : Option Command → Bool
is_read (Some Read) = true
is_read c = false

abbrev pub is_show : Option Command → Bool
is_show (Some Show) = true
is_show c = false

-- a command that has no more words
abbrev pub is_wordless : Option Command → Bool
is_wordless (Some Help) = true
is_wordless (Some Version) = true
is_wordless c = false
