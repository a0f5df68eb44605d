-- `addresses::none_kept` meets its contract: none is kept where none that stays is there. Assumes nothing.
use Rattle.std.proofs.Common.{ap, ◌∙◌, not}
use Rattle.addresses.specs.AddressesLaws.{none_has}
use Rattle.addresses.proofs.none_kept.Goals as goal

pub returns : goal.returns
returns c = ap not c.has.ensures ∙ none_has _ _
