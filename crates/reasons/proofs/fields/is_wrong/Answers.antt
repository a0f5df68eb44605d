-- `reasons::fields::is_wrong` meets its contract. Assumes nothing.
use Rattle.std.proofs.Common.{ap, not}
use Rattle.reasons.proofs.fields.is_wrong.Goals as goal

pub returns-then-hints : goal.returns-then-hints
returns-then-hints c = simp c.if-hints.true c.is_hint.ensures

pub returns : goal.returns
returns c = simp c.if-hints.false (ap not c.value.ensures)
