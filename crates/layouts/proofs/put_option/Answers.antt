-- `layouts::put_option` meets its contract: the header, and the body. Assumes nothing.
use Rattle.blocks.specs.Parts.{fields_in}
use Rattle.layouts.specs.Writes.{wrote-option}
use Rattle.layouts.proofs.put_option.Goals as goal

pub returns : goal.returns
returns c =
    let a = c.args in
    let r = fields_in a.p.now in
    let o = c.of.ensures in
    wrote-option a.c r c.body.result (rw (o.full, o.name, o.addresses, o.parameters) at c.body.ensures.value) c.put_header-from.ensures c.put_body.ensures
