-- `values::put_code` meets its contract: a backslash, and three digits. Assumes nothing.
use Rattle.chars.specs.PutsLaws.{puts_then}
use Rattle.values.proofs.put_code.Goals as goal

pub returns : goal.returns
returns c = search puts_then
