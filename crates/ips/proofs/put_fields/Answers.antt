-- `ips::put_fields` meets its contract: the first field, and the others after a colon each. Assumes nothing.
use Rattle.std.proofs.Common.{arith}
use Rattle.octets.specs.OverLaws.{wrote_none}
use Rattle.octets.specs.ListsLaws.{take_rest}
use Rattle.ips.specs.Writes.{no-colons, some-length, wrote-colons}
use Rattle.ips.proofs.put_fields.Goals as goal

pub returns-then-s-lt2 : goal.returns-then-s-lt2
returns-then-s-lt2 c =
    rw (no-colons c.args.s.now c.if-s-lt2.true) (wrote_none (omega arith))

pub put_hex-next-requires : goal.put_hex-next-requires
put_hex-next-requires c =
    let size = some-length c.args.s.now c.get16.result c.if-s-lt2.false c.get16.ensures.value in
    record { field_bound = omega arith; field_in_bounds = omega arith }

pub put_led-requires : goal.put_led-requires
put_led-requires c =
    let size = some-length c.args.s.now c.get16.result c.if-s-lt2.false c.get16.ensures.value in
    rw (take_rest 2 c.args.s.now) (omega arith)

pub returns : goal.returns
returns c =
    wrote-colons c.args.s.now c.if-s-lt2.false c.get16.ensures.value c.put_hex-next.ensures (rw (take_rest 2 c.args.s.now) at c.put_led.ensures)
