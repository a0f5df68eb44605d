-- `arguments::tables::carrier_named` meets its contract: the octets of its table are those of the definition. Assumes nothing.
use Rattle.std.proofs.Common.{refl, ap, ◌∙◌}
use Rattle.words.specs.Encoded.{encoded, plain, unbroken}
use Rattle.words.specs.EncodedLaws.{number-encoded}
use Rattle.carriers.specs.Carriers.{chosen_of}
use Rattle.arguments.specs.Tables.{carriers}
use Rattle.arguments.proofs.tables.carrier_named.Goals as goal

pub returns : goal.returns
unfolding carriers encoded plain unbroken
returns c = c.of.ensures.value ∙ ap chosen_of (c.number_of.ensures ∙ number-encoded carriers _ refl)
