-- `values::put_protocol` meets its contract: a comma, and the string. Assumes nothing.
use Rattle.chars.specs.PutsLaws.{puts_then}
use Rattle.values.proofs.put_protocol.Goals as goal

pub returns : goal.returns
returns c = search puts_then
