-- `vetting::vet` meets its contract: the sheet is refused as it is taken, or its records decide. Assumes nothing.
use Rattle.std.proofs.lemmas.Result.{err_from_is_err_and}
use Rattle.vetting.proofs.VettingLaws.{vet-refused, vet-taken, vet-wrong, vet-right}
use Rattle.vetting.proofs.vet.Goals as goal

pub weigh-requires : goal.weigh-requires
weigh-requires c = (vet-taken c.args.s.now c.in_ok-sheet.ensures).0

pub returns-in_err-sheet : goal.returns-in_err-sheet
returns-in_err-sheet c =
    let p = err_from_is_err_and c.from_residual.result c.from_residual.ensures.1 in
    rw (p.1, p.2) (vet-refused c.args.s.now c.in_err-sheet.ensures)

pub returns-in_err-found : goal.returns-in_err-found
returns-in_err-found c =
    let p = err_from_is_err_and c.from_residual-in_err-found.result c.from_residual-in_err-found.ensures.1 in
    rw (p.1, p.2) (vet-wrong c.args.s.now c.in_ok-sheet.ensures c.in_err-found.field-0.0 c.in_err-found.ensures)

pub returns : goal.returns
returns c = vet-right c.args.s.now c.in_ok-sheet.ensures c.in_ok-found.ensures
