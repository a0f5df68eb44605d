-- `forms::read_as` meets its contract: the tests in order. Assumes nothing.
use Rattle.std.proofs.Common.{ap, sym, ◌∙◌, ltb-true}
use Rattle.forms.specs.Fronts.{number_of}
use Rattle.forms.specs.FrontsLaws.{form-list}
use Rattle.forms.specs.FormsLaws.{as-groups, as-escapes, as-dumps}
use Rattle.forms.proofs.read_as.Goals as goal

pub returns-then-is_dump : goal.returns-then-is_dump
returns-then-is_dump c =
    let a = c.args in
    as-dumps (number_of a.form) a.text.now _ (ltb-true _ _ (sym c.is_dump.ensures ∙ c.if-is_dump.true)) c.style.ensures c.read.ensures

pub returns-in-Escapes : goal.returns-in-Escapes
returns-in-Escapes c =
    let a = c.args in
    as-escapes (number_of a.form) a.text.now _ (ap number_of c.in-Escapes.is) c.read-in-Escapes.ensures

pub returns-in_default : goal.returns-in_default
returns-in_default c =
    let a = c.args in
    as-groups (number_of a.form) a.text.now _ (form-list a.form c.in_default.not-Escapes (sym c.is_dump.ensures ∙ c.if-is_dump.false))
    c.kind.ensures c.read-in_default.ensures
