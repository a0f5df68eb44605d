-- `lines::listed::put_reason_part` meets its contract: nothing, or the reason. Assumes nothing.
use Rattle.std.proofs.Common.{eq-eqb, ne_eqb}
use Rattle.chars.specs.PutsLaws.{puts_none, puts_then}
use Rattle.lines.proofs.listed.put_reason_part.Goals as goal

pub returns-then-reason-eq0 : goal.returns-then-reason-eq0
returns-then-reason-eq0 c = simp (eq-eqb _ _ c.if-reason-eq0.true) (puts_none _ _ c.min.ensures)

pub returns : goal.returns
returns c =
    simp (ne_eqb _ _ c.if-reason-eq0.false) (puts_then c.put_all-from.ensures.puts c.put_reason.ensures)
