-- `forms::places::brace` meets its contract. The loop's invariant: the characters from i on decide, after the last that is no blank. Assumes nothing.
use Rattle.std.proofs.Common.{sym, ◌∙◌, inl, inr, arith}
use Rattle.forms.specs.PlacesLaws.{brace-here, brace-later, brace-none}
use Rattle.forms.proofs.places.brace.Goals as goal
use Rattle.forms.proofs.places.brace.Goals.{then-not-is_blank, else-not-is_blank}

pub returns-then-x-eq123-clause-at : goal.returns-then-x-eq123-clause-at
returns-then-x-eq123-clause-at c =
    let l = c.loop-i in
    brace-here c.args.text.now l.last l.i c.then_some.result c.loop-i-test.true c.if-x-eq123.true c.then_some.ensures ∙ l.invariant

pub loop-i-preserved : goal.loop-i-preserved
loop-i-preserved c =
    let l = c.loop-i in
    brace-later c.args.text.now l.last l.i c.if-not-is_blank.last c.loop-i-test.true c.if-x-eq123.false
    (elim c.if-not-is_blank.branch [
      | then-not-is_blank w ↦ inl (sym c.is_blank.ensures ∙ w.if-not-is_blank.true, w.last-is)
      | else-not-is_blank w ↦ inr (sym c.is_blank.ensures ∙ w.if-not-is_blank.false, w.last-is)
    ])
    ∙ l.invariant

pub returns-clause-at : goal.returns-clause-at
returns-clause-at c =
    let l = c.loop-i in
    omega (arith, brace-none c.args.text.now l.last l.i c.loop-i-test.false, l.invariant)
