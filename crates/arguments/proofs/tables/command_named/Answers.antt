-- `arguments::tables::command_named` meets its contract: the octets of its table are those of the definition. Assumes nothing.
use Rattle.std.proofs.Common.{refl, ap, ◌∙◌}
use Rattle.words.specs.Encoded.{encoded, plain, unbroken}
use Rattle.words.specs.EncodedLaws.{number-encoded}
use Rattle.arguments.specs.Tables.{commands}
use Rattle.arguments.specs.Command as command
use Rattle.arguments.proofs.tables.command_named.Goals as goal

pub returns : goal.returns
unfolding commands encoded plain unbroken
returns c = c.of.ensures ∙ ap command.of (c.number_of.ensures ∙ number-encoded commands _ refl)
