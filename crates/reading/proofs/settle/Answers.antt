-- `reading::settle` meets its contract: the tests in their order, and the sheet. Assumes nothing.
use Rattle.std.proofs.Common.{ap, arith}
use Rattle.judge.specs.Place.{Judged}
use Rattle.reading.specs.AnswerLaws.{reads-refused, reads-done, answer-records, answer-room, answer-done}
use Rattle.reading.proofs.settle.Goals as goal

pub returns-then-held : goal.returns-then-held
returns-then-held c = reads-refused _ (answer-records _ _ _ _ c.if-held.true) c.refused.ensures

pub returns-then-out-held : goal.returns-then-out-held
returns-then-out-held c =
    reads-refused _ (answer-room _ _ _ _ c.if-held.false c.if-out-held.true) c.refused-then-out-held.ensures

pub put_sheet-length-requires : goal.put_sheet-length-requires
put_sheet-length-requires c =
    let r = c.requires c.if-held.false in
    record { sound = r.0; slots_in_bounds = omega (arith, r.1, c.if-out-held.false) }

pub returns : goal.returns
returns c =
    let fault = ap (λ (j : Judged). j.fault) c.given_back-fault.ensures in
    let place = ap (λ (j : Judged). j.place) c.given_back-fault.ensures in
    rw (fault, place) (reads-done (answer-done _ _ _ _ c.if-held.false c.if-out-held.false) c.put_sheet-length.ensures)
