-- `ips::put_code` meets its contract: a store. Assumes nothing.
use Rattle.std.proofs.Common.{arith, refl}
use Rattle.octets.specs.OverLaws.{over-set}
use Rattle.ips.proofs.put_code.Goals as goal

pub returns : goal.returns
returns c = record { room = omega arith; next = refl; laid = over-set c.args.at c.args.code c.args.out.now (omega arith) }
