-- `svcparams::anywhere::rises` meets its contract. The loop's invariant: what is left of the field decides. Assumes nothing.
use Rattle.svcparams.proofs.WalkLaws.{climb-start, climb-end, climb-low, climb-next}
use Rattle.svcparams.proofs.anywhere.rises.Goals as goal

pub loop-n-init : goal.loop-n-init
loop-n-init c = climb-start _

pub returns-then-key-least : goal.returns-then-key-least
returns-then-key-least c =
    let e = c.in-Some.ensures.value in
    let h = c.in-Some.ensures.bounds.0 in
    climb-low _ _ _ c.loop-n.invariant e h c.get16-key.ensures.value c.if-key-least.true

pub loop-n-preserved : goal.loop-n-preserved
loop-n-preserved c =
    let e = c.in-Some.ensures.value in
    let h = c.in-Some.ensures.bounds.0 in
    climb-next _ _ _ c.loop-n.invariant e h c.get16-key.ensures.value c.if-key-least.false

pub returns : goal.returns
returns c = climb-end _ _ _ c.loop-n.invariant c.in_default.ensures.value
