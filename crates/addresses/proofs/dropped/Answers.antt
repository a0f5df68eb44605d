-- `addresses::dropped` meets its contract: the width picks the test. Assumes nothing.
use Rattle.std.proofs.Common.{eq-eqb, ne_eqb}
use Rattle.addresses.specs.Addresses.{unusable}
use Rattle.addresses.proofs.dropped.Goals as goal

pub returns-then-w-eq4 : goal.returns-then-w-eq4
unfolding unusable
returns-then-w-eq4 c = rw (eq-eqb _ _ c.if-w-eq4.true) c.unusable4.ensures

pub returns : goal.returns
unfolding unusable
returns c = rw (ne_eqb _ _ c.if-w-eq4.false) c.unusable16.ensures
