use Rattle.std.proofs.Common.{◌-◌, length}
use Rattle.findings.proofs.JoinedLaws.{Passing}
use Rattle.findings.proofs.examine_joined.Given as goal

abbrev pub invariant-loop-at : goal.invariant-loop-at
invariant-loop-at l = Passing l.joined l.at

abbrev pub decreases-loop-at : goal.decreases-loop-at
decreases-loop-at l = length l.joined - l.at
