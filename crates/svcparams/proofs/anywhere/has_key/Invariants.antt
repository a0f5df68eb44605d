use Rattle.std.proofs.Common.{length}
use Rattle.svcparams.proofs.WalkLaws.{Seeking}
use Rattle.svcparams.proofs.anywhere.has_key.Given as goal

abbrev pub invariant-loop-n : goal.invariant-loop-n
invariant-loop-n l = Seeking l.key l.p l.left

abbrev pub decreases-loop-n : goal.decreases-loop-n
decreases-loop-n l = length l.left
