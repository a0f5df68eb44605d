-- `records::examine` meets its contract, by the parts of the body. Assumes nothing.
use Rattle.blocks.specs.Parts.{fields_in}
use Rattle.records.specs.SplitLaws.{answer-bad, answer-fields}
use Rattle.records.proofs.examine.Goals as goal

pub returns-in_err-parts : goal.returns-in_err-parts
returns-in_err-parts c =
    let all = answer-bad c.args.c c.args.body.now _ _ c.in_err-parts.ensures.result_value c.from_residual.ensures.1 in
    record { value = all.0; bounds = all.1 }

pub returns : goal.returns
returns c =
    let s = c.in_ok-parts.ensures in
    let all =
    answer-fields c.args.c c.args.body.now (fields_in c.in_ok-parts.parts) s.result_value s.ranged _ c.examine_parts.ensures.value
    c.examine_parts.ensures.clean in
    record { value = all.0; bounds = all.1 }
