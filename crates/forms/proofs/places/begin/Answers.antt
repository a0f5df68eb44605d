-- `forms::places::begin` meets its contract. Assumes nothing.
use Rattle.std.proofs.Common.{◌∙◌, sym, ap, ◌≤◌, ℕ, Option, length, unwrap_or, subst}
use Rattle.forms.specs.PlacesLaws.{begin-is}
use Rattle.forms.proofs.places.begin.Goals as goal

pub returns : goal.returns
returns c =
    let t = c.args.text.now in
    let is = c.unwrap_or.ensures ∙ ap (λ (o : Option ℕ). unwrap_or o (length t)) c.unblank.ensures ∙ (begin-is t).0 in
    (is, subst (λ (n : ℕ). n ≤ length t) (sym is) (begin-is t).1)
