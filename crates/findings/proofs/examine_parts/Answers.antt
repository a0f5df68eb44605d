-- `findings::examine_parts` meets its contract: the judge's flaw, told more closely. Assumes nothing.
use Rattle.std.proofs.Common.{arith}
use Rattle.blocks.specs.Parts.{fields_in}
use Rattle.findings.specs.ExaminedLaws.{fields_fine, fields_within, fields_told}
use Rattle.findings.proofs.examine_parts.Goals as goal

pub returns-in_default : goal.returns-in_default
returns-in_default c = fields_fine c.args.c (fields_in c.args.parts) c.in_default.ensures

pub place-requires : goal.place-requires
place-requires c =
    let w = fields_within c.args.c (fields_in c.args.parts) c.in-Err.flaw c.in-Err.ensures (rw c.number.ensures at c.param_for-param.ensures.value) in
    (omega (arith, c.requires, w.0), omega (arith, c.requires, w.1))

pub returns : goal.returns
returns c =
    let e = c.of-lengths.ensures in
    fields_told c.args.c (fields_in c.args.parts) c.in-Err.flaw c.in-Err.ensures (rw c.number.ensures at c.param_for-param.ensures.value)
    (rw (e.0, e.1, e.2) at c.place.ensures) c.reason_of.ensures
