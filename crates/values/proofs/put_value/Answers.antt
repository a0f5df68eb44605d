-- `values::put_value` meets its contract. The loop's invariant: the octets so far are written. Assumes nothing.
use Rattle.std.proofs.Common.{refl, add-one, arith, drop_of_length-le, drop-cons}
use Rattle.values.specs.Values.{value_of}
use Rattle.values.specs.ListLaws.{listed_start, listed_next, listed-end}
use Rattle.values.proofs.put_value.Goals as goal

pub loop-b-init : goal.loop-b-init
loop-b-init c = listed_start _ _ _ c.min-o.ensures

pub loop-b-preserved : goal.loop-b-preserved
loop-b-preserved c =
    listed_next _ _ c.loop-b.invariant (rw add-one (drop-cons c.args.s.now c.loop-b.b-index 0 (omega arith))) refl c.put_escaped-o.ensures

pub returns : goal.returns
unfolding value_of
returns c = listed-end _ _ c.loop-b.invariant (drop_of_length-le _ c.loop-b-test.false)
