-- `forms::read_list` meets its contract: a dump is refused, and a list read. Assumes nothing.
use Rattle.std.proofs.Common.{sym, ◌∙◌, ltb-true, ltb-false}
use Rattle.forms.specs.Fronts.{number_of}
use Rattle.forms.specs.FormsLaws.{list-dump, list-as}
use Rattle.forms.proofs.read_list.Goals as goal

pub returns-then-is_dump : goal.returns-then-is_dump
returns-then-is_dump c =
    list-dump (number_of c.form_of-form.result) c.args.text.now _ c.form_of-form.ensures (ltb-true _ _ (sym c.is_dump.ensures ∙ c.if-is_dump.true))

pub returns : goal.returns
returns c =
    let list = ltb-false 6 (number_of c.form_of-form.result) (sym c.is_dump.ensures ∙ c.if-is_dump.false) in
    list-as (number_of c.form_of-form.result) c.args.text.now _ c.form_of-form.ensures list c.read_as.ensures
