-- `ips::put_led` meets its contract. The loop's invariant: the first k fields are written. Assumes nothing.
use Rattle.std.proofs.Common.{arith}
use Rattle.octets.specs.OverLaws.{wrote_none}
use Rattle.ips.specs.Writes.{led-room, wrote-next, all-fields}
use Rattle.ips.proofs.put_led.Goals as goal

pub loop-k-init : goal.loop-k-init
loop-k-init c = wrote_none (omega arith)

pub put_next-next-requires-clause-field_in_bounds : goal.put_next-next-requires-clause-field_in_bounds
put_next-next-requires-clause-field_in_bounds c =
    let room = led-room c.args.s.now c.loop-k.k (omega arith) c.get16.result c.get16.ensures.value in
    omega arith

pub loop-k-preserved : goal.loop-k-preserved
loop-k-preserved c =
    wrote-next c.args.s.now c.loop-k.k (omega arith) c.get16.ensures.value c.loop-k.invariant c.put_next-next.ensures

pub returns : goal.returns
returns c = rw (all-fields c.args.s.now c.loop-k.k (omega arith)) at c.loop-k.invariant
