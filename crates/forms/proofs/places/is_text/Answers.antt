-- `forms::places::is_text` meets its contract. Assumes nothing.
use Rattle.std.proofs.Common.{◌∙◌, sym, ap, not}
use Rattle.forms.specs.PlacesLaws.{uncontrolled-none}
use Rattle.forms.proofs.places.is_text.Goals as goal

pub returns-else-is_wide : goal.returns-else-is_wide
returns-else-is_wide c =
    ap not c.has_control.ensures ∙ uncontrolled-none c.args.text.now ∙ simp (sym c.is_wide.ensures ∙ c.if-is_wide.false)
