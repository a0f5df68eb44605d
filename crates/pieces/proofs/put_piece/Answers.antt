-- `pieces::put_piece` meets its contract: the header, and the octets moved behind it. Assumes nothing.
use Rattle.std.proofs.Common.{arith}
use Rattle.pieces.specs.CuttingLaws.{piece-written}
use Rattle.pieces.proofs.put_piece.Goals as goal

pub returns : goal.returns
returns c =
    let a = c.args in
    piece-written a.from a.n (omega arith) (omega (arith, c.put_header-body.ensures.next)) c.put_header-body.ensures c.copy_within.ensures
