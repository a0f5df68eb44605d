-- `forms::read` meets its contract: an outcome for each answer in the front's form. Assumes nothing.
use Rattle.std.proofs.Common.{ap, sym, ◌∙◌, ltb-true, ltb-false}
use Rattle.inputs.specs.Read.{read_in}
use Rattle.inputs.specs.ReadLaws.{unread-in}
use Rattle.forms.specs.Fronts.{number_of}
use Rattle.forms.specs.FormsLaws.{read-octets, read-dump, read-other, read-long}
use Rattle.forms.proofs.read.Goals as goal

pub returns-then-is_dump : goal.returns-then-is_dump
returns-then-is_dump c =
    let f = number_of c.form_of-form.result in
    read-dump f c.args.text.now _ c.form_of-form.ensures c.read_as.ensures (ltb-true 6 f (sym c.is_dump.ensures ∙ c.if-is_dump.true))

pub returns-in-Ok : goal.returns-in-Ok
returns-in-Ok c =
    read-octets (number_of c.form_of-form.result) c.args.text.now _ c.form_of-form.ensures c.read_as-2.ensures (ap read_in c.in-Ok.is)

pub returns-in-Err-Bad : goal.returns-in-Err-Bad
returns-in-Err-Bad c =
    let f = number_of c.form_of-form.result in
    let list = ltb-false 6 f (sym c.is_dump.ensures ∙ c.if-is_dump.false) in
    read-other f c.args.text.now _ c.form_of-form.ensures c.read_as-2.ensures list (unread-in c.in-Err-Bad.is c.in-Err-Bad.field-0-is)
    c.read_headed.ensures

pub returns-in-Err-Long : goal.returns-in-Err-Long
returns-in-Err-Long c =
    read-long (number_of c.form_of-form.result) c.args.text.now _ c.form_of-form.ensures c.read_as-2.ensures
    (unread-in c.in-Err-Long.is c.in-Err-Long.field-0-is)
