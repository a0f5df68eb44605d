-- `hexes::put_octets` meets its contract. The loop's invariant: the digits of the octets passed are written. Assumes nothing.
use Rattle.std.proofs.Common.{arith, refl, sym}
use Rattle.chars.specs.PutsLaws.{puts_none, puts_then, puts-as}
use Rattle.hexes.specs.HexesLaws.{hex-more}
use Rattle.hexes.proofs.put_octets.Goals as goal

pub loop-b-init : goal.loop-b-init
loop-b-init c = (refl, puts_none _ _ c.min-o.ensures)

pub loop-b-preserved : goal.loop-b-preserved
loop-b-preserved c =
    let s = c.args.s.now in
    (omega arith, puts-as (sym (hex-more s c.loop-b.b-index (omega arith))) (puts_then c.loop-b.invariant.1 c.put_octet-o.ensures.puts))
