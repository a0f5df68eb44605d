-- `findings::sheet::seek` meets its contract. The invariant: the records that are left decide. Assumes nothing.
use Rattle.std.proofs.Common.{arith}
use Rattle.sheets.specs.Sheets.{front_size}
use Rattle.taking.specs.TurnsLaws.{turn-shown, turn-done, turn-rest, shown-within}
use Rattle.findings.specs.SheetLaws.{seeking-start, seeking-end, seeking-found, seeking-next}
use Rattle.findings.proofs.sheet.seek.Goals as goal

pub loop-record-init : goal.loop-record-init
loop-record-init c =
    let a = c.args in
    (front_size, rw c.into_iter-record-iterator.ensures.into_iter_gives c.of-record-items.ensures, seeking-start a.c a.s.now a.place c.requires)

pub overflow_add-record : goal.overflow_add-record
overflow_add-record c =
    let i = c.loop-record.invariant in
    let a = c.args in
    omega (arith, shown-within a.c a.s.now i.0 (turn-shown i.1 c.in-Some.record c.in-Some.ensures.steps))

pub returns-then-place-record : goal.returns-then-place-record
returns-then-place-record c =
    let i = c.loop-record.invariant in
    let h = turn-shown i.1 c.in-Some.record c.in-Some.ensures.steps in
    seeking-found i.2 h c.if-place-record.true c.saturating_sub.ensures c.name_reason.ensures

pub loop-record-preserved : goal.loop-record-preserved
loop-record-preserved c =
    let i = c.loop-record.invariant in
    let h = turn-shown i.1 c.in-Some.record c.in-Some.ensures.steps in
    (c.in-Some.record.next, turn-rest i.1 c.in-Some.record c.in-Some.ensures.steps, seeking-next i.2 h c.if-place-record.false)

pub returns : goal.returns
returns c =
    let i = c.loop-record.invariant in
    seeking-end i.2 (turn-done i.1 c.in-None.ensures.steps)
