use Rattle.reasons.specs.NamesLaws.{Marking}
use Rattle.reasons.proofs.labels.mark_at.Given as goal

abbrev pub invariant-loop-i : goal.invariant-loop-i
invariant-loop-i l = Marking l.s l.at l.i l.left
