-- `reasons::name_reason` meets its contract. Assumes nothing.
use Rattle.reasons.proofs.name_reason.Goals as goal

pub returns-then-text : goal.returns-then-text
returns-then-text c = simp c.if-text.true c.text_reason.ensures

pub returns : goal.returns
returns c = simp c.if-text.false c.wire_reason.ensures
