use Rattle.std.proofs.Common.{length}
use Rattle.svcparams.proofs.WalkLaws.{Valued}
use Rattle.svcparams.proofs.values.Given as goal

abbrev pub invariant-loop-n : goal.invariant-loop-n
invariant-loop-n l = Valued l.p l.left l.beside

abbrev pub decreases-loop-n : goal.decreases-loop-n
decreases-loop-n l = length l.left
