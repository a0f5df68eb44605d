-- Why a text spells no octets (docs/COMMAND.md, "Input"): the same names as in src/. Assumes nothing: these are definitions.
use Rattle.std.specs.Prelude.{ℕ}
use Rattle.inputs.specs.declared.Why.{Why}
use Rattle.inputs.specs.declared.Why.TheVariants.{Form, Groups, Offset, Column, Count, Base64, Value}

-- a character does not belong where it stands
abbrev pub form : ℕ
form = 1

-- groups of digits that may be octets, words or offsets
abbrev pub groups : ℕ
groups = 2

-- an offset is not the number of octets before its line
abbrev pub offset : ℕ
offset = 3

-- the text column does not show the octets beside it
abbrev pub column : ℕ
column = 4

-- the length that is given is not the number of octets
abbrev pub count : ℕ
count = 5

-- no base64
abbrev pub base64 : ℕ
base64 = 6

-- a value that no option holds
abbrev pub value : ℕ
value = 7

-- the number of a reason of src/
abbrev pub number_of : Why → ℕ
number_of Form = form
number_of Groups = groups
number_of Offset = offset
number_of Column = column
number_of Count = count
number_of Base64 = base64
number_of Value = value
