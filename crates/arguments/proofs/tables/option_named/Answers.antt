-- `arguments::tables::option_named` meets its contract: the octets of its table are those of the definition. Assumes nothing.
use Rattle.std.proofs.Common.{refl, ap, ◌∙◌}
use Rattle.words.specs.Encoded.{encoded, plain, unbroken}
use Rattle.words.specs.EncodedLaws.{number-encoded}
use Rattle.arguments.specs.Tables.{options}
use Rattle.arguments.specs.Options as option
use Rattle.arguments.proofs.tables.option_named.Goals as goal

pub returns : goal.returns
unfolding options encoded plain unbroken
returns c = c.of.ensures ∙ ap option.of (c.number_of.ensures ∙ number-encoded options _ refl)
