-- `taking::after_name` meets its contract: each part as it is cut out of what is left. Assumes nothing.
use Rattle.std.proofs.Common.{refl}
use Rattle.taking.specs.ShownLaws.{left, lists-full, lists-short, lists-1, lists-2, lists-3, lists-4, lists-5}
use Rattle.taking.proofs.after_name.Goals as goal

pub returns-in_err-count-in-1 : goal.returns-in_err-count-in-1
returns-in_err-count-in-1 c = λ t at n h e.
    let o = left h e in
    lists-short c.args.c t at n c.in-1.is (lists-1 c.args.c t _ o c.in_err-count-in-1.ensures.cases) c.from_residual.ensures

pub returns-in_err-addresses-in-1 : goal.returns-in_err-addresses-in-1
returns-in_err-addresses-in-1 c = λ t at n h e.
    let o = left h e in
    lists-short c.args.c t at n c.in-1.is
    (lists-2 c.args.c t _ o c.in_ok-count-in-1.ensures.cases c.from.ensures c.address_width.ensures c.in_err-addresses-in-1.ensures.cases)
    c.from_residual-in_err-addresses-in-1.ensures

pub returns-in_err-size-in-1 : goal.returns-in_err-size-in-1
returns-in_err-size-in-1 c = λ t at n h e.
    let o = left h e in
    lists-short c.args.c t at n c.in-1.is
    (lists-3 c.args.c t _ o c.in_ok-count-in-1.ensures.cases c.from.ensures c.address_width.ensures c.in_ok-addresses-in-1.ensures.cases
    c.in_err-size-in-1.ensures.cases)
    c.from_residual-in_err-size-in-1.ensures

pub returns-in_err-parameters-in-1 : goal.returns-in_err-parameters-in-1
returns-in_err-parameters-in-1 c = λ t at n h e.
    let o = left h e in
    lists-short c.args.c t at n c.in-1.is
    (lists-4 c.args.c t _ o c.in_ok-count-in-1.ensures.cases c.from.ensures c.address_width.ensures c.in_ok-addresses-in-1.ensures.cases
    c.in_ok-size-in-1.ensures.cases c.get16.ensures.value c.in_err-parameters-in-1.ensures.cases)
    c.from_residual-in_err-parameters-in-1.ensures

pub returns-in_ok-parameters-in-1 : goal.returns-in_ok-parameters-in-1
returns-in_ok-parameters-in-1 c = λ t at n h e.
    let o = left h e in
    lists-full c.args.c t at n c.in-1.is
    (lists-5 c.args.c t _ o c.in_ok-count-in-1.ensures.cases c.from.ensures c.address_width.ensures c.in_ok-addresses-in-1.ensures.cases
    c.in_ok-size-in-1.ensures.cases c.get16.ensures.value c.in_ok-parameters-in-1.ensures.cases refl refl refl)
