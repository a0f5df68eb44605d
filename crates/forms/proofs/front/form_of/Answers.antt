-- `forms::front::form_of` meets its contract. The loop's invariant: the characters from i on tell the form, after what has been seen. Assumes nothing.
use Rattle.std.proofs.Common.{◌≡◌, sym, ap, ◌∙◌, ℕ, ◌+◌, arith}
use Rattle.forms.specs.Fronts.{number_of, number_in, front_in, after}
use Rattle.forms.specs.FrontsLaws.{form-here, form-later, form-none, form-start, form-known}
use Rattle.forms.proofs.front.form_of.Goals as goal

pub loop-i-init : goal.loop-i-init
loop-i-init c = (omega arith, rw c.begun-s.ensures (form-start c.args.text.now))

pub returns-in-Some : goal.returns-in-Some
returns-in-Some c =
    let t = c.args.text.now in
    let s = front_in c.loop-i.s in
    let moved = c.after-s.ensures ∙ ap (λ (y : ℕ). after y s) c.character.ensures in
    let told : number_in c.after-s.result.form ≡ number_of c.in-Some.form = ap number_in c.in-Some.is in
    let known : number_in c.after-s.result.form ≡ 0 → ⊥ = λ e. form-known c.in-Some.form (sym told ∙ e) in
    sym told ∙ sym (form-here t c.loop-i.i s (front_in c.after-s.result) moved (omega arith) known) ∙ c.loop-i.invariant.1

pub loop-i-preserved : goal.loop-i-preserved
loop-i-preserved c =
    let t = c.args.text.now in
    let s = front_in c.loop-i.s in
    let moved = c.after-s.ensures ∙ ap (λ (y : ℕ). after y s) c.character.ensures in
    (omega arith, form-later t c.loop-i.i s (front_in c.after-s.result) moved (omega arith) (ap number_in c.in_default.is) ∙ c.loop-i.invariant.1)

pub returns-in_default : goal.returns-in_default
returns-in_default c =
    let t = c.args.text.now in
    let s = front_in c.loop-i.s in
    let moved = c.after-s.ensures ∙ ap (λ (y : ℕ). after y s) c.character.ensures in
    let none = form-none t (c.loop-i.i + 1) (front_in c.after-s.result) (omega arith) in
    sym none ∙ form-later t c.loop-i.i s (front_in c.after-s.result) moved (omega arith) (ap number_in c.in_default.is) ∙ c.loop-i.invariant.1
