use Rattle.std.proofs.Common.{◌-◌, length}
use Rattle.frames.proofs.GatherLaws.{Joining}
use Rattle.frames.proofs.join.Given as goal

abbrev pub invariant-loop-start : goal.invariant-loop-start
invariant-loop-start l = Joining l.area l.initial.out l.at l.n l.out

abbrev pub decreases-loop-start : goal.decreases-loop-start
decreases-loop-start l = length l.area - l.at
