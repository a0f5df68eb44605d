-- The form of the input that is asked for (docs/COMMAND.md, "Input"), and the numbers that the table of options has for it (arguments/Tables). Assumes
-- nothing: these are definitions.
use Rattle.std.specs.Prelude.{ℕ, Bool, true, false, cond, eqb, Option, Some, None}
use Rattle.arguments.specs.declared.Form.{Form}
use Rattle.arguments.specs.declared.Form.TheVariants.{Hex, Raw, Base64}

-- none is asked for: the input itself decides
abbrev pub none : ℕ
none = 0

abbrev pub hex : ℕ
hex = 1

abbrev pub raw : ℕ
raw = 2

abbrev pub base64 : ℕ
base64 = 3

-- whether two forms are the same
abbrev pub same : Form → Form → Bool
same Hex Hex = true
same Raw Raw = true
same Base64 Base64 = true
same f h = false

-- the form of a number; any other is none
abbrev pub of : ℕ → Option Form
of k = cond (eqb k hex) (Some Hex) (cond (eqb k raw) (Some Raw) (cond (eqb k base64) (Some Base64) None))

-- the number of a form
abbrev pub number_in : Option Form → ℕ
number_in None = none
number_in (Some Hex) = hex
number_in (Some Raw) = raw
number_in (Some Base64) = base64
