use Rattle.std.proofs.Common.{length}
use Rattle.svcparams.proofs.ValueLaws.{Strings}
use Rattle.svcparams.proofs.alpn.Given as goal

abbrev pub invariant-loop-left : goal.invariant-loop-left
invariant-loop-left l = Strings l.v l.left

abbrev pub decreases-loop-left : goal.decreases-loop-left
decreases-loop-left l = length l.left
