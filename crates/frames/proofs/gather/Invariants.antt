use Rattle.std.proofs.Common.{◌-◌, length}
use Rattle.frames.proofs.GatherLaws.{Gathering}
use Rattle.frames.proofs.gather.Given as goal

abbrev pub invariant-loop-start : goal.invariant-loop-start
invariant-loop-start l = Gathering l.area l.at l.from l.found

abbrev pub decreases-loop-start : goal.decreases-loop-start
decreases-loop-start l = length l.area - l.at
