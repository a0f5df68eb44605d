-- `taking::record_at` meets its contract: the eight octets, the name, then what its mode adds. Assumes nothing.
use Rattle.std.proofs.Common.{refl, ap, ◌∙◌, length, length-drop, arith}
use Rattle.octets.specs.NumbersLaws.{bytes-at}
use Rattle.taking.specs.ShownLaws.{shows-past, shows-headless, shows-nameless, shows-cut, shows-record, name-left}
use Rattle.taking.proofs.record_at.Goals as goal

pub returns-in_err-rest : goal.returns-in_err-rest
returns-in_err-rest c = let a = c.args in shows-past a.c a.s.now a.at c.in_err-rest.ensures.cases c.from_residual.ensures

pub returns-in_err-head : goal.returns-in_err-head
returns-in_err-head c =
    let a = c.args in
    shows-headless a.c a.s.now a.at c.in_ok-rest.ensures.cases c.in_err-head.ensures.cases c.from_residual-in_err-head.ensures

pub returns-in_err-name : goal.returns-in_err-name
returns-in_err-name c =
    let a = c.args in
    shows-nameless a.c a.s.now a.at c.in_ok-rest.ensures.cases c.in_ok-head.ensures.cases c.from.ensures c.in_err-name.ensures.cases
    c.from_residual-in_err-name.ensures

pub returns-in_err-tail : goal.returns-in_err-tail
returns-in_err-tail c =
    let a = c.args in
    let k = name-left a.c a.s.now a.at c.in_ok-rest.ensures.cases c.in_ok-head.ensures.cases c.from.ensures c.in_ok-name.ensures.cases refl in
    shows-cut a.c a.s.now a.at c.in_ok-rest.ensures.cases c.in_ok-head.ensures.cases c.from.ensures c.in_ok-name.ensures.cases refl
    (c.in_err-tail.ensures a.s.now a.at c.from.result k.0 k.1) c.from_residual-in_err-tail.ensures

pub returns : goal.returns
returns c =
    let a = c.args in
    let k = name-left a.c a.s.now a.at c.in_ok-rest.ensures.cases c.in_ok-head.ensures.cases c.from.ensures c.in_ok-name.ensures.cases refl in
    let l = c.in_ok-tail.ensures a.s.now a.at c.from.result k.0 k.1 in
    let octets = bytes-at a.s.now (λ i. omega (arith, c.type_inv.s i)) in
    shows-record a.c a.s.now a.at c.in_ok-rest.ensures.cases c.in_ok-head.ensures.cases c.from.ensures c.in_ok-name.ensures.cases refl l octets
    c.get16.ensures.value c.get32.ensures.value refl refl refl refl refl refl

pub overflow_sub-result : goal.overflow_sub-result
overflow_sub-result c =
    let a = c.args in
    let k = name-left a.c a.s.now a.at c.in_ok-rest.ensures.cases c.in_ok-head.ensures.cases c.from.ensures c.in_ok-name.ensures.cases refl in
    let l = c.in_ok-tail.ensures a.s.now a.at c.from.result k.0 k.1 in
    omega (arith, ap length l.rest ∙ length-drop _ a.s.now)
