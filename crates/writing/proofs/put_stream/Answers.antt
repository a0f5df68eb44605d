-- `writing::put_stream` meets its contract. The invariant: the records passed are laid. Assumes nothing.
use Rattle.std.proofs.Common.{refl, arith}
use Rattle.sheets.specs.Sheets.{front_size}
use Rattle.taking.specs.TurnsLaws.{turn-shown, turn-done, turn-rest}
use Rattle.writing.specs.LayingLaws.{laying-start, laying-length, laying-end, laying-writable, laying-room, laying-next}
use Rattle.writing.proofs.put_stream.Goals as goal

pub loop-record-init : goal.loop-record-init
loop-record-init c =
    let p = c.requires in
    (front_size, rw c.into_iter-record-iterator.ensures.into_iter_gives (record { carrier = refl; sheet = refl; begins = omega arith }), laying-start p.ready p.s_in_bounds)

pub put_record-at-requires : goal.put_record-at-requires
put_record-at-requires c =
    let i = c.loop-record.invariant in
    let h = turn-shown i.1 c.in-Some.record c.in-Some.ensures.steps in
    record { writable = laying-writable i.2 h; in_bounds = laying-room i.2 h }

pub loop-record-preserved : goal.loop-record-preserved
loop-record-preserved c =
    let i = c.loop-record.invariant in
    let h = turn-shown i.1 c.in-Some.record c.in-Some.ensures.steps in
    (c.in-Some.record.next, turn-rest i.1 c.in-Some.record c.in-Some.ensures.steps, laying-next i.2 h c.put_record-at.ensures)

pub shape_of-out : goal.shape_of-out
shape_of-out c = laying-length c.loop-record.invariant.2

pub returns : goal.returns
returns c =
    let i = c.loop-record.invariant in
    laying-end i.2 (turn-done i.1 c.in-None.ensures.steps)
