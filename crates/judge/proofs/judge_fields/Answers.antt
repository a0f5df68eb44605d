-- `judge::judge_fields` meets its contract: one outcome for each return. Assumes nothing.
use Rattle.std.proofs.Common.{rules, sym, ◌∙◌, ◌≡◌, Result, Ok, Err}
use Rattle.std.specs.Result.{IsErrAnd}
use Rattle.numbers.specs.Fault as fault
use Rattle.numbers.specs.declared.Fault.{Fault}
use Rattle.judge.specs.declared.Flaw.{Flaw}
use Rattle.judge.specs.Place.{judged, judged_in}
use Rattle.judge.specs.Judge.{judged_of}
use Rattle.judge.specs.Outcomes.{judged-priority, judged-full, judged-name-only}
use Rattle.judge.specs.JudgeLaws.{carrier-width}
use Rattle.judge.proofs.judge_fields.Goals as goal

-- a fault that is handed on as a flaw has no place
handed-on : {T : Type 0} (r : Result T Flaw) (f : Fault) → IsErrAnd r (λ w. w ≡ record { fault = f; place = 0 }) → judged_in r ≡ judged (fault.number_of f) 0
handed-on (Ok _) f h = elim h [ ]
handed-on (Err w) f h = rw h

pub returns-then-priority-eq0 : goal.returns-then-priority-eq0
returns-then-priority-eq0 c = rw c.from.ensures (judged-priority _ _ _ _ _ _ _ c.if-priority-eq0.true)

pub tail_fault-requires : goal.tail_fault-requires
tail_fault-requires c = rw c.address_width.ensures (carrier-width c.args.c)

pub returns-in_err-map_err : goal.returns-in_err-map_err
unfolding judged_of
returns-in_err-map_err c = search rules

pub returns-in_err-tail_fault : goal.returns-in_err-tail_fault
returns-in_err-tail_fault c =
    handed-on _ _ c.from_residual-in_err-tail_fault.ensures.1 ∙ search (rules, judged-full)

pub returns-in_err-name_only_fault : goal.returns-in_err-name_only_fault
returns-in_err-name_only_fault c =
    handed-on _ _ c.from_residual-in_err-name_only_fault.ensures.1 ∙ search (rules, judged-name-only)

pub returns-in_ok-tail_fault : goal.returns-in_ok-tail_fault
returns-in_ok-tail_fault c = search (rules, judged-full)

pub returns-in_ok-name_only_fault : goal.returns-in_ok-name_only_fault
returns-in_ok-name_only_fault c = search (rules, judged-name-only)
