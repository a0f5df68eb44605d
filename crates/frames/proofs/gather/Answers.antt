-- `frames::gather` meets its contract. The invariant: what was found is right of the bodies met so far; with the second the walk ends. The measure is what is left
-- of the area. Assumes nothing.
use Rattle.std.proofs.Common.{sym, arith, ap, ◌∙◌, Ok}
use Rattle.std.proofs.lemmas.Result.{err_from_is_err_and}
use Rattle.frames.specs.Laws.{step_block, step-skipped}
use Rattle.frames.proofs.GatherLaws.{gathering-first, gathering-skipped, gathering-end, gathering-fault}
use Rattle.frames.proofs.gather.Goals as goal

pub loop-start-smaller-in-Block : goal.loop-start-smaller-in-Block
loop-start-smaller-in-Block c = let m = step_block _ _ _ (sym (ap Ok (sym c.in-Block.is) ∙ c.in_ok-start.ensures.value)) in omega arith

pub loop-start-preserved-in-Block : goal.loop-start-preserved-in-Block
loop-start-preserved-in-Block c = gathering-first (sym (ap Ok (sym c.in-Block.is) ∙ c.in_ok-start.ensures.value)) (rw c.in-Absent.is at c.loop-start.invariant)

pub loop-start-smaller : goal.loop-start-smaller
loop-start-smaller c = let m = step-skipped _ _ _ (sym (ap Ok (sym c.in-Skipped.is) ∙ c.in_ok-start.ensures.value)) in omega arith

pub loop-start-preserved : goal.loop-start-preserved
loop-start-preserved c = gathering-skipped c.loop-start.invariant (sym (ap Ok (sym c.in-Skipped.is) ∙ c.in_ok-start.ensures.value))

pub returns-in-End : goal.returns-in-End
returns-in-End c = gathering-end c.loop-start.invariant (sym (ap Ok (sym c.in-End.is) ∙ c.in_ok-start.ensures.value))

pub returns-in_err-start : goal.returns-in_err-start
returns-in_err-start c =
    let p = err_from_is_err_and c.from_residual.result c.from_residual.ensures.1 in
    rw (p.1, p.2) (gathering-fault c.loop-start.invariant (sym (sym c.in_err-start.was ∙ c.next_block.ensures.value)))
