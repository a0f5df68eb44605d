-- `records::put_fields` meets its contract: the head, and what mode 1 adds. Assumes nothing.
use Rattle.records.specs.GivenLaws.{asks-head, asks-tail, writes-bare, writes-full}
use Rattle.records.proofs.put_fields.Goals as goal

pub put_head-end-requires-clause-name_in_bounds : goal.put_head-end-requires-clause-name_in_bounds
put_head-end-requires-clause-name_in_bounds c =
    let a = c.args in
    (asks-head a.given a.parts.head _ _ _ c.requires.puttable a.at a.out.now c.requires.parameters_in_bounds).1.1

pub put_tail-requires-clause-parameters_in_bounds : goal.put_tail-requires-clause-parameters_in_bounds
put_tail-requires-clause-parameters_in_bounds c =
    let a = c.args in
    let asks = asks-tail a.given a.parts.head _ _ _ c.requires.puttable a.at _ c.requires.parameters_in_bounds c.put_head-end.ensures c.if-head.true in
    asks.1.1.1

pub returns-then-head : goal.returns-then-head
returns-then-head c =
    let a = c.args in
    writes-full a.given a.parts.head _ _ _ c.requires.puttable a.at a.out.now c.requires.parameters_in_bounds
    c.put_head-end.ensures c.if-head.true c.put_tail.ensures

pub returns : goal.returns
returns c =
    let a = c.args in
    writes-bare a.given a.parts.head _ _ _ c.requires.puttable a.at a.out.now c.requires.parameters_in_bounds c.put_head-end.ensures c.if-head.false
