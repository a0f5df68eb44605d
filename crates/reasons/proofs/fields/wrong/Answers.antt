-- `reasons::fields::wrong` meets its contract. The loop's invariant: what is left of the field decides. Assumes nothing.
use Rattle.reasons.specs.ParamsLaws.{seeking-start, seeking-end, seeking-found, seeking-next}
use Rattle.reasons.proofs.fields.wrong.Goals as goal

pub loop-n-init : goal.loop-n-init
loop-n-init c = seeking-start _ _ _

pub returns-then-is_wrong-clause-value : goal.returns-then-is_wrong-clause-value
returns-then-is_wrong-clause-value c =
    seeking-found _ _ _ _ c.loop-n.invariant c.in-Some.ensures.value c.in-Some.ensures.bounds.0 c.get16-key.ensures.value c.is_wrong.ensures
    c.if-is_wrong.true

pub loop-n-preserved : goal.loop-n-preserved
loop-n-preserved c =
    seeking-next _ _ _ _ c.loop-n.invariant c.in-Some.ensures.value c.in-Some.ensures.bounds.0 c.get16-key.ensures.value c.is_wrong.ensures
    c.if-is_wrong.false

pub returns-clause-value : goal.returns-clause-value
returns-clause-value c = seeking-end _ _ _ _ c.loop-n.invariant c.in_default.ensures.value
