-- `taking::take_carrier` meets its contract: an unknown carrier, or its records. Assumes nothing.
use Rattle.std.proofs.Common.{sym, ◌∙◌}
use Rattle.std.proofs.lemmas.Result.{err_from_is_err_and}
use Rattle.taking.specs.TookLaws.{carrier-1, carrier-2}
use Rattle.taking.proofs.take_carrier.Goals as goal

pub returns-in_err-c : goal.returns-in_err-c
returns-in_err-c c =
    let a = c.args in
    let p = err_from_is_err_and c.from_residual.result c.from_residual.ensures.1 in
    rw (p.1, p.2) (carrier-1 a.s.now a.carrier a.count c.of.ensures.value (sym c.ok_or.ensures.value ∙ c.in_err-c.was))

pub returns : goal.returns
returns c =
    let a = c.args in
    carrier-2 a.s.now a.carrier a.count c.of.ensures.value (sym c.ok_or.ensures.value ∙ c.in_ok-c.was) c.take_records.ensures
