-- `names::hyphen_fits` meets its contract. Assumes nothing.
use Rattle.std.proofs.Common.{eq-eqb, ne_eqb}
use Rattle.names.proofs.hyphen_fits.Goals as goal

pub returns-then-b-eq45 : goal.returns-then-b-eq45
returns-then-b-eq45 c = simp (eq-eqb _ _ c.if-b-eq45.true)

pub returns-else-b-eq45 : goal.returns-else-b-eq45
returns-else-b-eq45 c = simp (ne_eqb _ _ c.if-b-eq45.false)
