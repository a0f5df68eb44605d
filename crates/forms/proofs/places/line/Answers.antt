-- `forms::places::line` meets its contract. The loop's invariant: `Lined`. Assumes nothing.
use Rattle.std.proofs.Common.{sym, ◌∙◌, inl, inr}
use Rattle.forms.specs.PlacesLaws.{lined-none, lined-past, lined-more, lined-all}
use Rattle.forms.proofs.places.line.Goals as goal
use Rattle.forms.proofs.places.line.Goals.{then-x-eq10, else-x-eq10, then-not-is_blank, else-not-is_blank}

pub loop-i-init : goal.loop-i-init
loop-i-init c = lined-none c.args.at c.args.text.now

pub returns-then-at-i : goal.returns-then-at-i
returns-then-at-i c = lined-past c.loop-i.invariant c.loop-i-test.true c.if-at-i.true

pub loop-i-preserved : goal.loop-i-preserved
loop-i-preserved c =
    lined-more c.loop-i.invariant c.if-x-eq10.breaks c.if-not-is_blank.line c.if-not-is_blank.breaks c.loop-i-test.true c.if-at-i.false
    (elim c.if-x-eq10.branch [
      | then-x-eq10 w ↦ inl (w.if-x-eq10.true, w.breaks-is)
      | else-x-eq10 w ↦ inr (w.if-x-eq10.false, w.breaks-is)
    ])
    (elim c.if-not-is_blank.branch [
      | then-not-is_blank w ↦ inl (sym c.is_blank.ensures ∙ w.if-not-is_blank.true, w.line-is, w.breaks-is)
      | else-not-is_blank w ↦ inr (sym c.is_blank.ensures ∙ w.if-not-is_blank.false, w.line-is, w.breaks-is)
    ])

pub returns : goal.returns
returns c = lined-all c.loop-i.invariant c.loop-i-test.false
