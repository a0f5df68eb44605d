-- `frames::whole_size` meets its contract. Assumes nothing.
use Rattle.std.proofs.Common.{ap}
use Rattle.carriers.specs.declared.Octets.{Octets}
use Rattle.frames.proofs.whole_size.Goals as goal

pub returns-then-eights : goal.returns-then-eights
returns-then-eights c = rw c.if-eights.true (ap (λ (o : Octets). o.0) c.octets_of.ensures)

pub returns-else-eights : goal.returns-else-eights
returns-else-eights c = rw c.if-eights.false
