-- `reasons::labels::octet_before` meets its contract. Assumes nothing.
use Rattle.std.proofs.Common.{eq-eqb, ne_eqb}
use Rattle.reasons.proofs.labels.octet_before.Goals as goal

pub returns-then-at-eq0 : goal.returns-then-at-eq0
returns-then-at-eq0 c = simp (eq-eqb _ _ c.if-at-eq0.true)

pub returns : goal.returns
returns c = simp (ne_eqb _ _ c.if-at-eq0.false) c.octet_at.ensures
