-- `records::put_record` meets its contract, by the parts of the body. Assumes nothing.
use Rattle.blocks.specs.Parts.{fields_in}
use Rattle.records.specs.declared.Given.{Given}
use Rattle.records.specs.SplitLaws.{kept-not-bad, given-asks, given-writes}
use Rattle.records.proofs.put_record.Goals as goal

pub returns-in_default : goal.returns-in_default
returns-in_default c = absurd (kept-not-bad c.args.c c.args.body.now c.requires.kept _ c.in_default.ensures.result_value)

pub put_fields-requires : goal.put_fields-requires
put_fields-requires c =
    let given : Given = record { text = c.as_text.result; width = c.address_width.result; clean = c.args.clean } in
    let a = c.args in
    let s = c.in-Ok.ensures in
    let all =
    given-asks a.c a.body.now c.requires.kept (fields_in c.in-Ok.parts) s.result_value s.ranged given c.as_text.ensures c.address_width.ensures
    c.requires.clean a.at a.out.now c.requires.body_in_bounds in
    record { puttable = all.0; parameters_in_bounds = all.1 }

pub returns : goal.returns
returns c =
    let given : Given = record { text = c.as_text.result; width = c.address_width.result; clean = c.args.clean } in
    let a = c.args in
    let s = c.in-Ok.ensures in
    given-writes a.c a.body.now c.requires.kept (fields_in c.in-Ok.parts) s.result_value s.ranged given c.as_text.ensures c.address_width.ensures
    c.put_fields.ensures
