-- `showing::put_parameters` meets its contract. The loop's invariant: the parameters before what is left are written. Assumes nothing.
use Rattle.std.proofs.Common.{refl, arith}
use Rattle.svcparams.specs.TilingLaws.{left-entries, left-none}
use Rattle.values.specs.ListLaws.{listed_start, listed_next, listed-end}
use Rattle.showing.specs.Showing.{parameters_of}
use Rattle.showing.proofs.put_parameters.Goals as goal

pub loop-n-init : goal.loop-n-init
loop-n-init c = (refl, listed_start _ _ _ c.min-o.ensures)

pub loop-n-preserved : goal.loop-n-preserved
loop-n-preserved c =
    let i = c.loop-n.invariant in
    let k = left-entries _ c.in-Some.ensures.value c.in-Some.ensures.bounds.0 in
    (omega arith, listed_next _ _ i.1 k refl (rw c.get16.ensures.value at c.put_parameter-o.ensures))

pub returns : goal.returns
unfolding parameters_of
returns c =
    listed-end _ _ c.loop-n.invariant.1 (left-none _ c.in_default.ensures.value)
