-- `results::put_first_part` meets its contract: nothing, or the fault and its place. Assumes nothing.
use Rattle.std.proofs.Common.{eq-eqb, ne_eqb}
use Rattle.chars.specs.PutsLaws.{puts_none, puts_then}
use Rattle.results.proofs.put_first_part.Goals as goal

pub returns-then-fault-eq0 : goal.returns-then-fault-eq0
returns-then-fault-eq0 c = simp (eq-eqb _ _ c.if-fault-eq0.true) (puts_none _ _ c.min.ensures)

pub returns : goal.returns
returns c =
    simp (ne_eqb _ _ c.if-fault-eq0.false) (puts_then c.put_count-next.ensures c.put_place_part.ensures)
