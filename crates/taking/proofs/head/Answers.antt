-- `taking::head` meets its contract: the tests in order. Assumes nothing.
use Rattle.std.proofs.Common.{sym, ◌∙◌, arith, rules, length-take-le, ap, not}
use borrow.Author.Tests.{not-true, not-false}
use Rattle.sheets.specs.Sheets.{version_at}
use Rattle.taking.specs.TookLaws.{head-1, head-2, head-3, head-4, head-5}
use Rattle.taking.proofs.head.Goals as goal

pub returns-then-s-gt-INPUT : goal.returns-then-s-gt-INPUT
returns-then-s-gt-INPUT c = search (rules, head-1)

pub returns-then-s-lt-FRONT : goal.returns-then-s-lt-FRONT
returns-then-s-lt-FRONT c = search (rules, head-2)

pub slice_bounds-same-end : goal.slice_bounds-same-end
slice_bounds-same-end c = sym (length-take-le version_at c.args.s.now (omega arith))

pub returns-then-not-same : goal.returns-then-not-same
returns-then-not-same c =
    let s = c.args.s.now in
    head-3 s c.if-s-gt-INPUT.false c.if-s-lt-FRONT.false (sym (not-true _ (ap not c.if-not-same.true)) ∙ c.same.ensures)

pub returns-then-get16-ne-EDITION : goal.returns-then-get16-ne-EDITION
returns-then-get16-ne-EDITION c =
    let s = c.args.s.now in
    let e = sym (not-false _ (ap not c.if-not-same.false)) ∙ c.same.ensures in
    head-4 s c.if-s-gt-INPUT.false c.if-s-lt-FRONT.false e (λ i. c.if-get16-ne-EDITION.true (c.get16.ensures.value ∙ i))

pub returns : goal.returns
returns c =
    let s = c.args.s.now in
    let e = sym (not-false _ (ap not c.if-not-same.false)) ∙ c.same.ensures in
    head-5 s c.if-s-gt-INPUT.false c.if-s-lt-FRONT.false e (sym c.get16.ensures.value ∙ c.if-get16-ne-EDITION.false) c.from.ensures c.from-2.ensures
