-- `values::put_protocol_items` meets its contract. The loop's invariant: the strings before what is left are written. Assumes nothing.
use Rattle.std.proofs.Common.{refl}
use Rattle.values.specs.Values.{protocols_of}
use Rattle.values.specs.ListLaws.{listed_start, listed_next, listed-end}
use Rattle.values.specs.StringLaws.{strings-end, strings-short, strings-next}
use Rattle.values.proofs.put_protocol_items.Goals as goal

pub loop-left-init : goal.loop-left-init
loop-left-init c = listed_start _ _ _ c.min-o.ensures

pub returns-in_default-split_at_checked : goal.returns-in_default-split_at_checked
unfolding protocols_of
returns-in_default-split_at_checked c =
    listed-end _ _ c.loop-left.invariant
    (strings-short c.loop-left.left.now c.in-len1-up.len_at_least c.from.ensures refl c.in_default-split_at_checked.ensures.cases)

pub loop-left-preserved : goal.loop-left-preserved
loop-left-preserved c =
    listed_next _ _ c.loop-left.invariant
    (strings-next c.loop-left.left.now c.in-len1-up.len_at_least c.from.ensures refl c.in-Some.ensures.cases.0 c.in-Some.ensures.cases.1 c.in-Some.ensures.cases.2)
    refl c.put_protocol-o.ensures

pub returns : goal.returns
unfolding protocols_of
returns c = listed-end _ _ c.loop-left.invariant (strings-end c.loop-left.left.now c.in_default.len_below)
