-- `frames::next_block` meets its contract: each return is one of the laws of `step_at`, and so has its number and values. Assumes nothing.
use Rattle.std.proofs.Common.{◌≡◌, refl, sym, ap, ◌∙◌, Bool, true, arith, ℕ, ◌+◌, ◌-◌, length, take, drop, Ok, Err}
use Rattle.std.proofs.lemmas.Result.{err_from_is_err_and}
use Rattle.carriers.specs.Carriers.{octets}
use Rattle.frames.specs.declared.Head.{Head}
use Rattle.frames.specs.declared.Step.{Step}
use Rattle.frames.specs.Frame.{first_of}
use Rattle.frames.specs.Step.{option_at}
use Rattle.frames.specs.Laws.{step-at-end, step_is, option-fits, option-over, own_room}
use Rattle.frames.specs.ToldLaws.{step-says}
use Rattle.frames.proofs.next_block.Goals as goal

pub returns-then-at-area : goal.returns-then-at-area
returns-then-at-area c =
    let e = sym (step-at-end c.args.c c.args.area.now c.args.at c.if-at-area.true) in
    record { value = e; step_says = step-says _ _ _ _ c.requires e }

pub overflow_add-start : goal.overflow_add-start
overflow_add-start c =
    let a = c.args in
    let n = c.in-Option.size.0 in
    let own : Ok (Head.Option true (octets n)) ≡ first_of a.c (take (length a.area.now - a.at) (drop a.at a.area.now)) =
    ap (λ (own : Bool). Ok (Head.Option own (octets n))) (sym c.if-own.true) ∙ ap Ok (sym c.in-Option.is) ∙ c.in_ok-first.ensures.value in
    omega (arith, c.header_size.ensures, own_room a.c a.area.now a.at (omega arith) own)

pub returns-in_err-first : goal.returns-in_err-first
returns-in_err-first c =
    let a = c.args in
    let p = err_from_is_err_and c.from_residual.result c.from_residual.ensures.1 in
    let e = step_is a.c a.area.now a.at (omega arith) (sym c.in_err-first.was ∙ c.first.ensures.value) (sym (p.1 ∙ ap Err p.2)) in
    record { value = e; step_says = step-says _ _ _ _ c.requires e }

pub returns-in-End : goal.returns-in-End
returns-in-End c =
    let a = c.args in
    let e = step_is a.c a.area.now a.at (omega arith) (ap Ok (sym c.in-End.is) ∙ c.in_ok-first.ensures.value) refl in
    record { value = e; step_says = step-says _ _ _ _ c.requires e }

pub returns-then-own : goal.returns-then-own
returns-then-own c =
    let a = c.args in
    let n = c.in-Option.size.0 in
    let e =
    step_is a.c a.area.now a.at (omega arith) (ap Ok (sym c.in-Option.is) ∙ c.in_ok-first.ensures.value)
    (option-fits a.c (length a.area.now - a.at) a.at c.in-Option.own n (omega arith)
    ∙ ap (λ (own : Bool). Ok (option_at a.c a.at own n)) c.if-own.true
    ∙ ap (λ (h : ℕ). Ok (Step.Block (a.at + h) (a.at + n))) (sym c.header_size.ensures)) in
    record { value = e; step_says = step-says _ _ _ _ c.requires e }

pub returns-else-own : goal.returns-else-own
returns-else-own c =
    let a = c.args in
    let n = c.in-Option.size.0 in
    let e =
    step_is a.c a.area.now a.at (omega arith) (ap Ok (sym c.in-Option.is) ∙ c.in_ok-first.ensures.value)
    (option-fits a.c (length a.area.now - a.at) a.at c.in-Option.own n (omega arith)
    ∙ ap (λ (own : Bool). Ok (option_at a.c a.at own n)) c.if-own.false) in
    record { value = e; step_says = step-says _ _ _ _ c.requires e }

pub returns-then-area-at : goal.returns-then-area-at
returns-then-area-at c =
    let a = c.args in
    let e =
    step_is a.c a.area.now a.at (omega arith) (ap Ok (sym c.in-Option.is) ∙ c.in_ok-first.ensures.value)
    (option-over a.c (length a.area.now - a.at) a.at c.in-Option.own c.in-Option.size.0 (omega arith)) in
    record { value = e; step_says = step-says _ _ _ _ c.requires e }
