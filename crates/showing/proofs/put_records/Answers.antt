-- `showing::put_records` meets its contract. The loop's invariant: whatever records the sheet has, those that are passed are written. Assumes nothing.
use Rattle.std.proofs.Common.{refl, arith}
use Rattle.sheets.specs.Sheets.{front_size}
use Rattle.taking.specs.TurnsLaws.{turn-shown, turn-done, turn-rest, shown-short}
use Rattle.showing.specs.SheetLaws.{lined-start, lined-next, lined-end}
use Rattle.showing.proofs.put_records.Goals as goal

pub loop-record-init : goal.loop-record-init
loop-record-init c =
    (front_size, rw c.into_iter-record-iterator.ensures.into_iter_gives c.of-record-items.ensures, refl, lined-start _ _ _ c.min-o.ensures)

pub put_record-o-requires : goal.put_record-o-requires
put_record-o-requires c =
    let i = c.loop-record.invariant in
    let a = c.args in
    shown-short a.c a.s.now i.0 (turn-shown i.1 c.in-Some.record c.in-Some.ensures.steps)

pub loop-record-preserved : goal.loop-record-preserved
loop-record-preserved c =
    let i = c.loop-record.invariant in
    let h = turn-shown i.1 c.in-Some.record c.in-Some.ensures.steps in (
      c.in-Some.record.next,
      turn-rest i.1 c.in-Some.record c.in-Some.ensures.steps,
      omega arith,
      λ rs k. lined-next _ _ _ (i.3 rs k) h c.put_record-o.ensures,
    )

pub returns : goal.returns
returns c =
    let i = c.loop-record.invariant in
    λ rs k. lined-end _ _ _ (i.3 rs k) (turn-done i.1 c.in-None.ensures.steps)
