-- `values::put_keys` meets its contract: the items between brackets. Assumes nothing.
use Rattle.chars.specs.PutsLaws.{puts_then}
use Rattle.values.proofs.put_keys.Goals as goal

pub returns : goal.returns
returns c = search puts_then
