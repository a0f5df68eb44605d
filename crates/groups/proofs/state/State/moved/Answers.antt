-- `groups::state::State::moved` meets its contract: at a mark the list is refused for what its group's end is refused for. Assumes nothing.
use Rattle.std.proofs.Common.{sym, refl, ◌∙◌}
use Rattle.groups.specs.States.{fresh}
use Rattle.groups.specs.StatesLaws.{moved-marking, marking-mark}
use Rattle.groups.specs.Held.{state_in}
use Rattle.groups.specs.HeldLaws.{reason-known, mark-kept, refused-led}
use Rattle.groups.proofs.state.State.moved.Goals as goal

pub returns-in_err-close-2 : goal.returns-in_err-close-2
returns-in_err-close-2 c =
    let a = c.args in
    let d = a.self.now in
    let s = state_in d in
    let w = c.in_err-close-2.field-0.0 in
    let kept = mark-kept d.kind (fresh s) d.alone _ (reason-known w) refl c.in_err-close-2.ensures in
    let led = marking-mark d.kind a.x (fresh s) c.if-self-ne0.true c.if-x-self.true
    ∙ moved-marking d.kind a.x s c.if-x-eq10.false (sym c.is_blank.ensures ∙ c.if-is_blank.false) in
    refused-led d.kind _ _ w _ c.from_residual-in_err-close-2.ensures.1 (rw (← led) kept)
