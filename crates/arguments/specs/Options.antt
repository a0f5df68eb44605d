-- The options (docs/COMMAND.md), and the numbers that the table of words has for them (arguments/Tables); the first three are those of the forms
-- (arguments/Form). Assumes nothing: these are definitions.
use Rattle.std.specs.Prelude.{ℕ, cond, eqb, Option, Some, None}
use Rattle.arguments.specs.declared.Form.TheVariants.{Hex, Raw, Base64}
use Rattle.arguments.specs.declared.tables.Choice.{Choice}
use Rattle.arguments.specs.declared.tables.Choice.TheVariants.{Form, Output, Json, Value, Strict, Force, Help, End}
use Rattle.arguments.specs.Form as form

abbrev pub output : ℕ
output = 4

abbrev pub json : ℕ
json = 5

abbrev pub value : ℕ
value = 6

abbrev pub strict : ℕ
strict = 7

abbrev pub force : ℕ
force = 8

abbrev pub help : ℕ
help = 9

-- `--`: no later word is an option
abbrev pub end : ℕ
end = 10

-- the option of a number
abbrev pub of : ℕ → Option Choice
of k =
    cond (eqb k form.hex) (Some (Form Hex))
    (cond (eqb k form.raw) (Some (Form Raw))
    (cond (eqb k form.base64) (Some (Form Base64))
    (cond (eqb k output) (Some Output)
    (cond (eqb k json) (Some Json)
    (cond (eqb k value) (Some Value)
    (cond (eqb k strict) (Some Strict)
    (cond (eqb k force) (Some Force)
    (cond (eqb k help) (Some Help)
    (cond (eqb k end) (Some End)
    None)))))))))
