-- `layouts::put_counted` meets its contract: the length, and the octets. Assumes nothing.
use Rattle.std.proofs.Common.{arith, length}
use Rattle.octets.specs.NumbersLaws.{length-be}
use Rattle.octets.specs.OverLaws.{then}
use Rattle.layouts.proofs.put_counted.Goals as goal

pub copy-requires : goal.copy-requires
copy-requires c =
    omega (arith, length-be c.args.width (length c.args.src.now))

pub returns : goal.returns
returns c =
    then c.put_number-from.ensures c.copy.ensures
