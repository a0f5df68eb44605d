-- `values::put_string` meets its contract: the octets between quotation marks. Assumes nothing.
use Rattle.chars.specs.PutsLaws.{puts_then}
use Rattle.values.specs.Values.{quoted}
use Rattle.values.proofs.put_string.Goals as goal

pub returns : goal.returns
unfolding quoted
returns c = search puts_then
