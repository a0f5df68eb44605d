use Rattle.std.proofs.Common.{length}
use Rattle.svcparams.proofs.WalkLaws.{Climbing}
use Rattle.svcparams.proofs.anywhere.rises.Given as goal

abbrev pub invariant-loop-n : goal.invariant-loop-n
invariant-loop-n l = Climbing l.p l.left l.least

abbrev pub decreases-loop-n : goal.decreases-loop-n
decreases-loop-n l = length l.left
