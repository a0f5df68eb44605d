-- `pieces::cut_within` meets its contract. The loop's invariant: the options of the first i octets stand at the front, and the headers
-- to come have just the room between these and the octets to come. Assumes nothing.
use Rattle.std.proofs.Common.{arith}
use Rattle.pieces.specs.CuttingLaws.{cutting-start, cutting-room, cutting-turn, cutting-done}
use Rattle.pieces.proofs.cut_within.Goals as goal

pub loop-i-init : goal.loop-i-init
loop-i-init c = cutting-start c.requires.n_value

pub put_piece-o-requires : goal.put_piece-o-requires
put_piece-o-requires c =
    (cutting-room c.min-size.result c.min-size.ensures c.loop-i.invariant c.loop-i-test.true, omega arith, omega arith)

pub loop-i-preserved : goal.loop-i-preserved
loop-i-preserved c =
    cutting-turn c.min-size.result c.min-size.ensures c.loop-i.invariant c.loop-i-test.true (omega arith) c.put_piece-o.ensures (omega arith)

pub returns : goal.returns
returns c = cutting-done c.loop-i.invariant c.loop-i-test.false
