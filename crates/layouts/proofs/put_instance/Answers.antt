-- `layouts::put_instance` meets its contract: the length, and the body. Assumes nothing.
use Rattle.blocks.specs.Parts.{fields_in}
use Rattle.layouts.specs.Writes.{wrote-instance}
use Rattle.layouts.proofs.put_instance.Goals as goal

pub returns : goal.returns
returns c =
    let a = c.args in
    let r = fields_in a.p.now in
    let o = c.of.ensures in
    wrote-instance r c.body.result (rw (o.full, o.name, o.addresses, o.parameters) at c.body.ensures.value) c.put16-from.ensures c.put_body.ensures
