use Rattle.std.proofs.Common.{◌≡◌, ◌-◌, length}
use Rattle.vectors.specs.LinesLaws.{Answering}
use Rattle.vectors.proofs.run.Given as goal

abbrev pub invariant-loop-at : goal.invariant-loop-at
invariant-loop-at l = (length l.out ≡ length l.initial.out) × Answering l.s l.initial.out l.out l.at l.o

abbrev pub decreases-loop-at : goal.decreases-loop-at
decreases-loop-at l = length l.s - l.at
