-- `showing::put_lifetime` meets its contract: the lifetime where the carrier has one. Assumes nothing.
use Rattle.chars.specs.PutsLaws.{puts_none, puts_then, puts-as}
use Rattle.showing.specs.PartLaws.{lifetime-none, lifetime-some}
use Rattle.showing.proofs.put_lifetime.Goals as goal

pub returns-then-lifetime_width-eq0 : goal.returns-then-lifetime_width-eq0
returns-then-lifetime_width-eq0 c = puts-as (lifetime-none _ _ _ c.lifetime_width.ensures c.if-lifetime_width-eq0.true) (puts_none _ _ c.min.ensures)

pub returns : goal.returns
returns c =
    puts-as (lifetime-some _ _ _ c.lifetime_width.ensures c.if-lifetime_width-eq0.false)
    (puts_then c.put_either-from.ensures c.put_span.ensures)
