-- `headers::put_cut` meets its contract: copied behind the place of the headers, and cut there. Assumes nothing.
use Rattle.std.proofs.Common.{arith}
use Rattle.pieces.specs.PiecesLaws.{cut-length}
use Rattle.headers.specs.HeadersLaws.{cut-wrote}
use Rattle.headers.proofs.put_cut.Goals as goal

pub copy-requires : goal.copy-requires
copy-requires c =
    omega (arith, cut-length c.args.value.now)

pub returns : goal.returns
returns c =
    cut-wrote c.args.value.now (omega arith) c.copy.ensures c.cut_within.ensures
