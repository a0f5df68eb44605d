-- `reading::put_sheet` meets its contract. The invariant: the records of the first slots are laid after the sheet's head. Assumes nothing.
use Rattle.std.proofs.Common.{ℕ, List, ◌≡◌, refl, ap, ◌∙◌, arith, ◌<◌, length, get_or}
use Rattle.octets.specs.OverLaws.{over-length}
use Rattle.order.specs.declared.slots.Slot.{Slot}
use Rattle.order.specs.Listed.{none}
use Rattle.sheets.specs.SheetsLaws.{length-sheet}
use Rattle.reading.specs.Tally.{records_at}
use Rattle.reading.specs.SlotLaws.{ordered-length, ordered_at, cut-kept, cut-clean}
use Rattle.reading.specs.SlotLaws.{written-length, written-room, written_next, written_start, sheet-written}
use Rattle.reading.proofs.put_sheet.Goals as goal

pub put_front-o-requires : goal.put_front-o-requires
put_front-o-requires c = omega (arith, c.requires.slots_in_bounds, length-sheet c.args.c (records_at c.args.c c.args.source.now c.args.slots))

pub loop-slot-init : goal.loop-slot-init
loop-slot-init c =
    rw c.as_slice-slot-items.ensures (written_start _ _ c.requires.sound c.ordered-sorting.ensures c.put_front-o.ensures c.requires.slots_in_bounds)

-- the slot that is met, in the list
met : (l l' : List Slot) (i : ℕ) → l ≡ l' → i < length l → (i < length l') × (get_or l i none ≡ get_or l' i none)
met l l' i e h = rw (← e) (h, refl)

pub slice_bounds-put_record-end : goal.slice_bounds-put_record-end
slice_bounds-put_record-end c =
    let there = met _ _ _ c.as_slice-slot-items.ensures c.loop-slot-test.true in
    let size = ordered-length _ _ c.requires.sound c.ordered-sorting.ensures in
    let good = ordered_at _ _ c.requires.sound c.ordered-sorting.ensures (omega (arith, there.0, size, c.ordered-sorting.ensures.count)) there.1 in
    omega (arith, good.within, c.from-start.ensures, c.from.ensures)

pub put_record-o-requires : goal.put_record-o-requires
put_record-o-requires c =
    let there = met _ _ _ c.as_slice-slot-items.ensures c.loop-slot-test.true in
    let size = ordered-length _ _ c.requires.sound c.ordered-sorting.ensures in
    let good = ordered_at _ _ c.requires.sound c.ordered-sorting.ensures (omega (arith, there.0, size, c.ordered-sorting.ensures.count)) there.1 in
    rw (c.from-start.ensures, c.from.ensures) (record {
      kept = cut-kept _ _ good;
      clean = cut-clean _ _ good;
      body_in_bounds = written-room c.loop-slot.invariant c.loop-slot-test.true refl;
    })

pub loop-slot-preserved : goal.loop-slot-preserved
loop-slot-preserved c =
    written_next c.loop-slot.invariant c.loop-slot-test.true refl (rw (c.from-start.ensures, c.from.ensures) at c.put_record-o.ensures)

pub shape_of-out : goal.shape_of-out
shape_of-out c =
    let w = c.put_front-o.ensures in
    written-length c.loop-slot.invariant ∙ ap length w.laid ∙ over-length 0 _ _ w.room

pub returns : goal.returns
returns c =
    let size = ordered-length _ _ c.requires.sound c.ordered-sorting.ensures in
    let list = ap length c.as_slice-slot-items.ensures in
    sheet-written _ _ c.requires.sound c.ordered-sorting.ensures c.put_front-o.ensures (rw c.as_slice-slot-items.ensures at c.loop-slot.invariant)
    (omega (arith, c.loop-slot-test.false, size, list))
