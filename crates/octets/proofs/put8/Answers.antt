-- `octets::put8` meets its contract: a store. Assumes nothing.
use Rattle.std.proofs.Common.{arith, ◌≡◌, refl, ◌%◌}
use Rattle.octets.specs.OverLaws.{over-set}
use Rattle.octets.proofs.put8.Goals as goal

pub returns : goal.returns
returns c =
    let low : c.args.v % 256 ≡ c.args.v = omega arith in
    record { room = omega arith; next = refl; laid = rw low (over-set c.args.at c.args.v c.args.out.now (omega arith)) }
