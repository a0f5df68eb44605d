-- `command::reads::read_as` meets its contract: the sheet that was read lies within its buffer, and the number decides. Assumes nothing.
use Rattle.std.proofs.Common.{sym, ap, subst, ◌∙◌, arith, rules, length, length-take-le, ℕ, pos, Result, ◌≤◌}
use Rattle.reading.specs.AnswerLaws.{reads-fits}
use Rattle.files.specs.declared.status.Stop.{Stop}
use Rattle.files.specs.Status.{Delivered, number_of, status_of}
use Rattle.command.specs.Numbers.{reading_of}
use Rattle.command.specs.NumbersLaws.{reading-is, as-refused, as-done, gives-stopped}
use Rattle.command.proofs.reads.read_as.Goals as goal

pub slice_bounds-sheet-end : goal.slice_bounds-sheet-end
slice_bounds-sheet-end g c =
    let short : c.read-r.result.length ≤ length c.read-r.new.out = reads-fits _ c.read-r.ensures c.read-r.auto.out in
    omega (arith, short)

pub slice_bounds-give_reading-end : goal.slice_bounds-give_reading-end
slice_bounds-give_reading-end g c =
    let short : c.read-r.result.length ≤ length c.read-r.new.out = reads-fits _ c.read-r.ensures c.read-r.auto.out in
    sym (length-take-le _ _ short)

pub returns-then-r-ne0 : goal.returns-then-r-ne0
returns-then-r-ne0 g c =
    let s = c.args.area.now in
    let named = ap (λ (n : ℕ). reading_of n s) (c.from.ensures ∙ c.number.ensures) in
    let is = reading-is _ s _ c.read-r.ensures (search rules) ∙ named in
    as-refused c.args.a.strict is c.if-r-ne0.true _ (ap (λ (t : Stop). pos (number_of t)) c.refuse.ensures)

pub returns-in-Err : goal.returns-in-Err
returns-in-Err g c =
    let s = c.args.area.now in
    let named = ap (λ (n : ℕ). reading_of n s) (c.from.ensures ∙ c.number.ensures) in
    let is = reading-is _ s _ c.read-r.ensures (search rules) ∙ named in
    let stopped = subst (λ (r : Result (Unit {0}) Stop). Delivered (status_of r)) c.in-Err.is c.give_reading-given.ensures in
    as-done c.args.a.strict is c.if-r-ne0.false _ (gives-stopped _ _ stopped)

pub returns-in-Ok : goal.returns-in-Ok
returns-in-Ok g c =
    let s = c.args.area.now in
    let named = ap (λ (n : ℕ). reading_of n s) (c.from.ensures ∙ c.number.ensures) in
    let is = reading-is _ s _ c.read-r.ensures (search rules) ∙ named in
    as-done c.args.a.strict is c.if-r-ne0.false _ c.settled.ensures
