-- `svcparams::anywhere::has_key` meets its contract. The loop's invariant: what is left of the field decides. Assumes nothing.
use Rattle.svcparams.proofs.WalkLaws.{seek-start, seek-end, seek_found, seek-next}
use Rattle.svcparams.proofs.anywhere.has_key.Goals as goal

pub loop-n-init : goal.loop-n-init
loop-n-init c = seek-start _ _

pub returns-then-get16-key : goal.returns-then-get16-key
returns-then-get16-key c =
    let e = c.in-Some.ensures.value in
    let h = c.in-Some.ensures.bounds.0 in
    seek_found _ _ _ c.loop-n.invariant e h c.get16.ensures.value c.if-get16-key.true

pub loop-n-preserved : goal.loop-n-preserved
loop-n-preserved c = seek-next _ _ _ c.loop-n.invariant c.in-Some.ensures.value c.in-Some.ensures.bounds.0 c.get16.ensures.value c.if-get16-key.false

pub returns : goal.returns
returns c = seek-end _ _ _ c.loop-n.invariant c.in_default.ensures.value
