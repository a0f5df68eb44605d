-- `lines::objects::put_member` meets its contract: nothing, or the member. Assumes nothing.
use Rattle.std.proofs.Common.{eq-eqb, ne_eqb}
use Rattle.chars.specs.PutsLaws.{puts_none}
use Rattle.lines.proofs.objects.put_member.Goals as goal

pub returns-then-n-eq0 : goal.returns-then-n-eq0
returns-then-n-eq0 c = simp (eq-eqb _ _ c.if-n-eq0.true) (puts_none _ _ c.min.ensures)

pub returns : goal.returns
returns c = simp (ne_eqb _ _ c.if-n-eq0.false) c.put_count.ensures
