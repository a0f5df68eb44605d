use Rattle.std.proofs.Common.{◌-◌, length}
use Rattle.findings.specs.PlacingLaws.{Placing}
use Rattle.findings.proofs.place.Given as goal

abbrev pub invariant-loop-start : goal.invariant-loop-start
invariant-loop-start l = Placing l.area l.j l.at l.last l.left

abbrev pub decreases-loop-start : goal.decreases-loop-start
decreases-loop-start l = length l.area - l.at
