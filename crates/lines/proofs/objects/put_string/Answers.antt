-- `lines::objects::put_string` meets its contract. The loop's invariant: the octets before the index are written. Assumes nothing.
use Rattle.std.proofs.Common.{refl, add-one, arith, drop_of_length-le, drop-cons}
use Rattle.lines.specs.Objects.{string_of}
use Rattle.values.specs.ListLaws.{listed_start, listed_next, listed-end}
use Rattle.lines.proofs.objects.put_string.Goals as goal

pub loop-b-init : goal.loop-b-init
loop-b-init c = (refl, listed_start _ _ _ c.min-o.ensures)

pub loop-b-preserved : goal.loop-b-preserved
loop-b-preserved c =
    let s = c.args.s.now in
    (omega arith, listed_next _ _ c.loop-b.invariant.1 (rw add-one (drop-cons s c.loop-b.b-index 0 (omega arith))) refl c.put_letter-o.ensures)

pub returns : goal.returns
unfolding string_of
returns c = listed-end _ _ c.loop-b.invariant.1 (drop_of_length-le c.args.s.now {i = c.loop-b.b-index} (omega arith))
