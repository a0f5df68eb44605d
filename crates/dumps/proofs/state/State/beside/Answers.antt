-- `dumps::state::State::beside` meets its contract: a character that the column does not show. Assumes nothing.
use Rattle.std.proofs.Common.{◌≡◌, sym, ◌∙◌, ap, ltb-true, get_or, length, rules}
use Rattle.dumps.specs.State.{State}
use Rattle.dumps.specs.Held.{state_in}
use Rattle.dumps.specs.States.{shown_of}
use Rattle.dumps.specs.StatesLaws.{beside-other}
use Rattle.dumps.proofs.state.State.beside.Goals as goal

pub returns-then-x-shown : goal.returns-then-x-shown
returns-then-x-shown c =
    let a = c.args in
    let inside = ltb-true _ _ (sym c.in-Some.ensures.lookup.0) in
    let here : c.in-Some.b.now ≡ get_or a.laid.now a.self.beside 0 = search rules in
    let shown = c.shown.ensures ∙ ap (shown_of a.f.prefix) here in
    ap (λ (s : State). s.why)
    (beside-other a.f a.x (length a.laid.now) (get_or a.laid.now a.self.beside 0) (state_in a.self) inside (λ e. c.if-x-shown.true (e ∙ sym shown)))
