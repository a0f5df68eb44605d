-- `showing::put_address_item` meets its contract: the parts one after another. Assumes nothing.
use Rattle.chars.specs.PutsLaws.{puts_then}
use Rattle.showing.proofs.put_address_item.Goals as goal

pub returns : goal.returns
returns c = search puts_then
