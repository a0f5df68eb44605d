-- `reasons::labels::mark_at` meets its contract. The loop's invariant: what is left of the name decides. Assumes nothing.
use Rattle.std.proofs.Common.{rules, arith, refl}
use Rattle.reasons.specs.NamesLaws.{mark-start, marked-length, marked-label, marked-after, marked-opens, marked-within, marked-end}
use Rattle.reasons.proofs.labels.mark_at.Goals.{then-left-ne0, else-left-ne0+else-x-eq0}
use Rattle.reasons.proofs.labels.mark_at.Goals as goal

pub loop-i-init : goal.loop-i-init
loop-i-init c = mark-start _ _

pub returns-then-left-eq0 : goal.returns-then-left-eq0
returns-then-left-eq0 c = search (rules, marked-length)

pub returns-else-left-eq0 : goal.returns-else-left-eq0
returns-else-left-eq0 c = search (rules, marked-label)

pub returns-then-x-eq0 : goal.returns-then-x-eq0
returns-then-x-eq0 c = search (rules, marked-after)

pub loop-i-preserved : goal.loop-i-preserved
loop-i-preserved c =
    elim c.if-left-ne0.branch [
      | then-left-ne0 w ↦ rw w.left-is (marked-within _ _ _ _ c.loop-i.invariant (omega arith) c.if-i-at.false refl w.if-left-ne0.true)
      | else-left-ne0+else-x-eq0 w ↦ rw w.left-is (search (rules, marked-opens))
    ]

pub returns : goal.returns
returns c = search (rules, marked-end)
