-- `values::put_key_item` meets its contract: a comma, and the key between quotation marks. Assumes nothing.
use Rattle.chars.specs.PutsLaws.{puts_then}
use Rattle.values.specs.Values.{quoted}
use Rattle.values.proofs.put_key_item.Goals as goal

pub returns : goal.returns
unfolding quoted
returns c = search puts_then
