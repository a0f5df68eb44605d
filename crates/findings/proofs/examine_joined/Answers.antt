-- `findings::examine_joined` meets its contract. The invariant: the instances passed have no fault. The measure is what is left of the data.
-- Assumes nothing.
use Rattle.std.proofs.Common.{sym, ◌∙◌, refl, arith}
use Rattle.octets.specs.NumbersLaws.{bytes-at}
use Rattle.judge.specs.Numbered.{number-some}
use Rattle.findings.proofs.JoinedLaws.{joined-none, passing-start, passing-short, passing-past, passing-place, passing-found, passing-next, passing-end}
use Rattle.findings.proofs.examine_joined.Goals as goal

pub returns-then-is_empty : goal.returns-then-is_empty
returns-then-is_empty c = joined-none _ c.if-is_empty.ensures c.plain.ensures

pub loop-at-init : goal.loop-at-init
loop-at-init c = passing-start _ c.if-is_empty.ensures

pub returns-then-joined-at-lt-LENGTH : goal.returns-then-joined-at-lt-LENGTH
returns-then-joined-at-lt-LENGTH c =
    passing-short c.loop-at.invariant c.loop-at-test.true c.if-joined-at-lt-LENGTH.true c.plain-then-joined-at-lt-LENGTH.ensures

pub returns-then-joined-start : goal.returns-then-joined-start
returns-then-joined-start c =
    passing-past c.loop-at.invariant c.loop-at-test.true c.get16-long.ensures.value c.if-joined-at-lt-LENGTH.false c.if-joined-start.true
    c.plain-then-joined-start.ensures

pub back-requires : goal.back-requires
back-requires c =
    let octets = bytes-at c.args.joined.now (λ i. omega (arith, c.shared_slice_known-1.given i)) in
    let m =
    passing-place c.loop-at.invariant c.loop-at-test.true c.get16-long.ensures.value c.if-joined-at-lt-LENGTH.false c.if-joined-start.false c.in-Err.ensures
    octets in
    omega (arith, m, c.well_formed.0.1)

pub returns-in-Err : goal.returns-in-Err
returns-in-Err c =
    c.back.ensures
    ∙ passing-found c.loop-at.invariant c.loop-at-test.true c.get16-long.ensures.value c.if-joined-at-lt-LENGTH.false c.if-joined-start.false c.in-Err.ensures
    (number-some c.in-Err.t.fault)

pub loop-at-preserved : goal.loop-at-preserved
loop-at-preserved c =
    passing-next c.loop-at.invariant c.loop-at-test.true c.get16-long.ensures.value c.if-joined-at-lt-LENGTH.false c.if-joined-start.false c.in_default.ensures
    refl

pub returns : goal.returns
returns c = passing-end c.loop-at.invariant c.loop-at-test.false refl
