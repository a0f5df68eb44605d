-- `names::name_of` meets its contract. Assumes nothing.
use Rattle.std.proofs.Common.{eq-eqb, ne_eqb}
use Rattle.names.proofs.name_of.Goals as goal

pub returns-then-place-eq-GOOD : goal.returns-then-place-eq-GOOD
returns-then-place-eq-GOOD c = simp (eq-eqb _ _ c.if-place-eq-GOOD.true)

pub returns : goal.returns
returns c = simp (ne_eqb _ _ c.if-place-eq-GOOD.false)
