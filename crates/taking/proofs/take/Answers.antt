-- `taking::take` meets its contract: the head, then the carrier and the records. Assumes nothing.
use Rattle.std.proofs.lemmas.Result.{err_from_is_err_and}
use Rattle.taking.specs.TookLaws.{take-1, take-2, take_long}
use Rattle.taking.proofs.take.Goals as goal

pub take_carrier-requires : goal.take_carrier-requires
take_carrier-requires c = take_long c.args.s.now c.in_ok-front.ensures

pub returns-in_err-front : goal.returns-in_err-front
returns-in_err-front c =
    let p = err_from_is_err_and c.from_residual.result c.from_residual.ensures.1 in
    rw (p.1, p.2) (take-1 c.args.s.now c.in_err-front.ensures)

pub returns : goal.returns
returns c = take-2 c.args.s.now c.in_ok-front.ensures c.take_carrier.ensures
