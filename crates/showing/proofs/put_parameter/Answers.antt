-- `showing::put_parameter` meets its contract: the parts one after another. Assumes nothing.
use Rattle.chars.specs.PutsLaws.{puts_then}
use Rattle.showing.specs.Showing.{parameter_of}
use Rattle.showing.proofs.put_parameter.Goals as goal

pub returns : goal.returns
unfolding parameter_of
returns c = search puts_then
