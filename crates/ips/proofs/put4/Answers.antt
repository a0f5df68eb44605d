-- `ips::put4` meets its contract: an octet, and three after a dot each. Assumes nothing.
use Rattle.std.proofs.Common.{arith}
use Rattle.octets.specs.OverLaws.{then}
use Rattle.ips.specs.Writes.{four-octets, four-length}
use Rattle.ips.proofs.put4.Goals as goal

pub put_decimal-first-requires : goal.put_decimal-first-requires
put_decimal-first-requires c = omega (arith, four-length c.args.a.now c.requires.a_len)

pub put_dotted-second-requires : goal.put_dotted-second-requires
put_dotted-second-requires c = omega (arith, four-length c.args.a.now c.requires.a_len)

pub put_dotted-third-requires : goal.put_dotted-third-requires
put_dotted-third-requires c =
    omega (arith, four-length c.args.a.now c.requires.a_len)

pub put_dotted-requires : goal.put_dotted-requires
put_dotted-requires c =
    omega (arith, four-length c.args.a.now c.requires.a_len)

pub returns : goal.returns
returns c =
    rw (four-octets c.args.a.now c.requires.a_len) (then c.put_decimal-first.ensures
    (then c.put_dotted-second.ensures (then c.put_dotted-third.ensures c.put_dotted.ensures)))
