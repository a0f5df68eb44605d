use Rattle.std.proofs.Common.{length}
use Rattle.svcparams.proofs.WalkLaws.{InOrder, Climbing}
use Rattle.svcparams.proofs.params_fault.Given as goal

abbrev pub invariant-loop-left : goal.invariant-loop-left
invariant-loop-left l = InOrder l.p l.left l.least l.hinted × Climbing l.p l.left l.least

abbrev pub decreases-loop-left : goal.decreases-loop-left
decreases-loop-left l = length l.left
