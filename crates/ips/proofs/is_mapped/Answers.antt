-- `ips::is_mapped` meets its contract. Assumes nothing.
use Rattle.ips.specs.Writes.{is_mapped, not-mapped}
use Rattle.ips.proofs.is_mapped.Goals as goal

pub returns-then-zeros : goal.returns-then-zeros
returns-then-zeros c =
    is_mapped c.args.a.now c.zeros.result c.get16.result c.zeros.ensures c.if-zeros.true c.get16.ensures.value

pub returns : goal.returns
returns c =
    not-mapped c.args.a.now c.zeros.result c.zeros.ensures c.if-zeros.false
