use Rattle.std.proofs.Common.{◌-◌, length}
use Rattle.reasons.specs.ParamsLaws.{Ordering}
use Rattle.reasons.proofs.fields.unordered.Given as goal

abbrev pub invariant-loop-at : goal.invariant-loop-at
invariant-loop-at l = Ordering l.p l.at l.least

abbrev pub decreases-loop-at : goal.decreases-loop-at
decreases-loop-at l = length l.p - l.at
