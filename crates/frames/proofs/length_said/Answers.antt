-- `frames::length_said` meets its contract. Assumes nothing.
use Rattle.std.proofs.Common.{ap}
use Rattle.carriers.specs.declared.Eights.{Eights}
use Rattle.frames.proofs.length_said.Goals as goal

pub returns-then-eights : goal.returns-then-eights
returns-then-eights c = rw c.if-eights.true (ap (λ (e : Eights). e.0) c.eights_of.ensures)

pub returns-else-eights : goal.returns-else-eights
returns-else-eights c = rw c.if-eights.false
