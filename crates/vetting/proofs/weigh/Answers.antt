-- `vetting::weigh` meets its contract. The invariant: what was found of the records passed. Assumes nothing.
use Rattle.std.proofs.Common.{refl, arith}
use Rattle.std.proofs.lemmas.Result.{err_from_is_err_and}
use Rattle.octets.specs.NumbersLaws.{bytes-at}
use Rattle.sheets.specs.Sheets.{front_size}
use Rattle.taking.specs.TurnsLaws.{turn-shown, turn-done, turn-rest, shown-within}
use Rattle.vetting.proofs.WeighingLaws.{weighing-start, weighing-fits, weighing-faulty, weighing-next, weighing-end}
use Rattle.vetting.proofs.weigh.Goals as goal

pub loop-record-init : goal.loop-record-init
loop-record-init c =
    let a = c.args in
    let w = weighing-start a.c a.s.now (bytes-at a.s.now (λ i. omega (arith, c.type_inv.s i))) c.requires in
    (front_size, rw c.into_iter-record-iterator.ensures.into_iter_gives c.of-record-items.ensures, w)

pub weigh_record-requires : goal.weigh_record-requires
weigh_record-requires c =
    let i = c.loop-record.invariant in
    let h = turn-shown i.1 c.in-Some.record c.in-Some.ensures.steps in
    record { within = omega (arith, shown-within c.args.c c.args.s.now i.0 h, c.well_formed.1.0.1); fits_record = weighing-fits i.2 h }

pub returns-in_err-one : goal.returns-in_err-one
returns-in_err-one c =
    let i = c.loop-record.invariant in
    let h = turn-shown i.1 c.in-Some.record c.in-Some.ensures.steps in
    let p = err_from_is_err_and c.from_residual.result c.from_residual.ensures.1 in
    rw (p.1, p.2) (weighing-faulty i.2 h c.in_err-one.ensures c.in_err-one.field-0.0 refl)

pub overflow_add-size : goal.overflow_add-size
overflow_add-size c = omega (arith, c.in_ok-one.ensures.small, c.loop-record.invariant.2.small)

pub loop-record-preserved : goal.loop-record-preserved
loop-record-preserved c =
    let i = c.loop-record.invariant in
    let h = turn-shown i.1 c.in-Some.record c.in-Some.ensures.steps in
    (c.in-Some.record.next, turn-rest i.1 c.in-Some.record c.in-Some.ensures.steps, weighing-next i.2 h c.in_ok-one.ensures refl refl)

pub returns : goal.returns
returns c =
    let i = c.loop-record.invariant in
    weighing-end i.2 (turn-done i.1 c.in-None.ensures.steps)
