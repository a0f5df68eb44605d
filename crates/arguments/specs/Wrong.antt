-- What is wrong with a command line (docs/COMMAND.md, "usage error"), by number. Assumes nothing: these are definitions.
use Rattle.std.specs.Prelude.{ℕ}
use Rattle.arguments.specs.declared.Wrong.{Wrong}
use Rattle.arguments.specs.declared.Wrong.TheVariants as is

-- no such command
abbrev pub command : ℕ
command = 1

-- no such option
abbrev pub option : ℕ
option = 2

-- no such carrier
abbrev pub carrier : ℕ
carrier = 3

-- a second file
abbrev pub file : ℕ
file = 4

-- an argument that is too long to be a file's name
abbrev pub long : ℕ
long = 5

-- `read` without a carrier
abbrev pub no_carrier : ℕ
no_carrier = 6

-- `-o` without a name
abbrev pub no_name : ℕ
no_name = 7

-- a second `-o`
abbrev pub output : ℕ
output = 8

-- a second form of the input
abbrev pub form : ℕ
form = 9

-- `--value`, `--strict` or `--force` without `read`
abbrev pub only_read : ℕ
only_read = 10

-- `-o` with `show`
abbrev pub show_output : ℕ
show_output = 11

-- `--json` with `-o -`: both would write to standard output
abbrev pub json_output : ℕ
json_output = 12

-- the number of what src/ has under the same name
abbrev pub number_of : Wrong → ℕ
number_of is.Command = command
number_of is.Option = option
number_of is.Carrier = carrier
number_of is.File = file
number_of is.Long = long
number_of is.NoCarrier = no_carrier
number_of is.NoName = no_name
number_of is.Output = output
number_of is.Form = form
number_of is.OnlyRead = only_read
number_of is.ShowOutput = show_output
number_of is.JsonOutput = json_output
