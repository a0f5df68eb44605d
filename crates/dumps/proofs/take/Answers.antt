-- `dumps::take` meets its contract: the state moves, stars are filled in, and an octet that is complete is laid. Assumes nothing.
use Rattle.std.proofs.Common.{refl, ap, ◌∙◌}
use Rattle.dumps.specs.State.{State}
use Rattle.dumps.specs.Held.{state_in}
use Rattle.dumps.specs.HeldLaws.{take-refused, take-stopped, take-on}
use Rattle.dumps.specs.StatesLaws.{moved-laid}
use Rattle.dumps.proofs.take.Goals as goal

pub returns-in_err-t : goal.returns-in_err-t
returns-in_err-t c =
    let a = c.args in
    let e = moved-laid a.style a.x a.n (state_in a.s) a.out.now _ refl c.requires in
    take-refused a.style (state_in a.s) a.x a.n a.out.now _ c.in_err-t.field-0.0 (c.in_err-t.ensures ∙ ap (λ (s : State). s.why) e)
    c.from_residual.ensures.1

pub returns-in_err-m : goal.returns-in_err-m
returns-in_err-m c =
    let a = c.args in
    let e = moved-laid a.style a.x a.n (state_in a.s) a.out.now _ refl c.requires in
    take-stopped a.style (state_in a.s) a.x a.n a.out.now _ c.in_ok-t.t (c.in_ok-t.ensures ∙ e) c.in_err-m.field-0.0 c.in_err-m.ensures
    c.from_residual-in_err-m.ensures.1

pub returns : goal.returns
returns c =
    let a = c.args in
    let e = moved-laid a.style a.x a.n (state_in a.s) a.out.now _ refl c.requires in
    take-on a.style (state_in a.s) a.x a.n a.out.now _ c.in_ok-t.t (c.in_ok-t.ensures ∙ e) c.in_ok-m.ensures c.lay.ensures
