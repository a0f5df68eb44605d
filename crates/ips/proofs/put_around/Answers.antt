-- `ips::put_around` meets its contract: the fields before the run, two colons, the fields after it. Assumes nothing.
use Rattle.std.proofs.Common.{arith}
use Rattle.octets.specs.ListsLaws.{take_rest}
use Rattle.ips.specs.Writes.{around-length, wrote-around}
use Rattle.ips.proofs.put_around.Goals as goal

pub put_fields-left-requires : goal.put_fields-left-requires
put_fields-left-requires c = omega (arith, around-length c.args.a.now c.args.start c.args.count)

pub put_code-one-requires : goal.put_code-one-requires
put_code-one-requires c =
    omega (arith, around-length c.args.a.now c.args.start c.args.count)

pub put_code-two-requires : goal.put_code-two-requires
put_code-two-requires c =
    omega (arith, around-length c.args.a.now c.args.start c.args.count)

pub put_fields-requires : goal.put_fields-requires
put_fields-requires c =
    let size = around-length c.args.a.now c.args.start c.args.count in
    rw take_rest (omega arith)

pub returns : goal.returns
returns c =
    wrote-around c.args.a.now c.args.start c.args.count c.put_fields-left.ensures c.put_code-one.ensures c.put_code-two.ensures
    (rw take_rest at c.put_fields.ensures)
