use Rattle.std.proofs.Common.{◌-◌, length}
use Rattle.frames.specs.Skip.{Passes}
use Rattle.frames.proofs.skip_wide.Given as goal

abbrev pub invariant-loop-at : goal.invariant-loop-at
invariant-loop-at l = Passes l.code l.reserved l.area l.from l.at

abbrev pub decreases-loop-at : goal.decreases-loop-at
decreases-loop-at l = length l.area - l.at
