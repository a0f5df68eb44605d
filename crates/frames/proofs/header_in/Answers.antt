-- `frames::header_in` meets its contract: a header of two octets, or of four. Assumes nothing.
use Rattle.std.proofs.Common.{◌∙◌, arith}
use Rattle.frames.specs.HeadLaws.{narrow-header, wide-header}
use Rattle.frames.proofs.header_in.Goals as goal

pub returns-then-width-eq1 : goal.returns-then-width-eq1
returns-then-width-eq1 c =
    let a = c.args in
    let h = narrow-header a.width a.s.now (omega arith) c.if-width-eq1.true in
    record { code_value = c.from.ensures ∙ h.0; lower_value = h.1 }

pub returns : goal.returns
returns c =
    let a = c.args in
    let h = wide-header a.width a.s.now (omega arith) (omega arith) in
    record { code_value = c.get16.ensures.value ∙ h.0; lower_value = h.1 }
