-- `records::put_name` meets its contract, for text and for wire form. Assumes nothing.
use Rattle.std.proofs.Common.{arith}
use Rattle.octets.specs.OverLaws.{then}
use Rattle.records.specs.Outcomes.{size-text, wrote-text, wrote-wire}
use Rattle.records.proofs.put_name.Goals as goal

pub to_wire-requires : goal.to_wire-requires
to_wire-requires c =
    let args = c.args in
    let s = size-text args.text args.name.now c.if-text.true in
    (omega (arith, s), omega (arith, s))

pub returns-then-text : goal.returns-then-text
returns-then-text c =
    let args = c.args in
    wrote-text args.text args.name.now c.wire_size-size.ensures c.if-text.true
    (then c.put8-next.ensures c.to_wire.ensures)

pub returns : goal.returns
returns c =
    let args = c.args in
    wrote-wire args.text args.name.now c.wire_size-size.ensures c.if-text.false
    (then c.put8-next.ensures c.copy.ensures)
