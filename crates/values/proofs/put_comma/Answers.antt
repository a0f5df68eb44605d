-- `values::put_comma` meets its contract: nothing before the first. Assumes nothing.
use Rattle.chars.specs.PutsLaws.{puts_none}
use Rattle.values.proofs.put_comma.Goals as goal

pub returns-then-first : goal.returns-then-first
returns-then-first c = rw c.if-first.true (puts_none _ _ c.min.ensures)

pub returns : goal.returns
returns c = rw c.if-first.false c.put_mark.ensures
