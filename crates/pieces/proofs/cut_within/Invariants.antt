use Rattle.std.proofs.Common.{◌-◌}
use Rattle.pieces.specs.Cutting.{Cutting}
use Rattle.pieces.proofs.cut_within.Given as goal

abbrev pub invariant-loop-i : goal.invariant-loop-i
invariant-loop-i l = Cutting l.from l.n l.initial.out l.i l.o l.out

abbrev pub decreases-loop-i : goal.decreases-loop-i
decreases-loop-i l = l.n - l.i
