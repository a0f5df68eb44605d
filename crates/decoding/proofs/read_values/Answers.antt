-- `decoding::read_values` meets its contract: by lines, or the whole input as one value. Assumes nothing.
use Rattle.std.proofs.Common.{sym, ◌∙◌}
use Rattle.decoding.specs.DecodingLaws.{values-lines, values-whole}
use Rattle.decoding.proofs.read_values.Goals as goal

pub returns-then-is_lines : goal.returns-then-is_lines
returns-then-is_lines c =
    let a = c.args in
    rw (values-lines a.form a.c a.text.now a.out.now (sym c.is_lines.ensures ∙ c.if-is_lines.true)) c.read_lines.ensures

pub returns : goal.returns
returns c =
    let a = c.args in
    values-whole a.form a.c a.text.now a.out.now (sym c.is_lines.ensures ∙ c.if-is_lines.false) c.read-whole.ensures c.add_read.ensures
