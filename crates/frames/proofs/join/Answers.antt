-- `frames::join` meets its contract. The invariant: the bodies met so far stand at the front of `out`. The measure is what is left
-- of the area. Assumes nothing.
use Rattle.std.proofs.Common.{sym, arith, ap, ◌∙◌, Ok}
use Rattle.std.proofs.lemmas.Result.{err_from_is_err_and}
use Rattle.frames.specs.Laws.{step_block, step-skipped}
use Rattle.frames.proofs.GatherLaws.{joining-start, joining-room, joining-block, joining-skipped, joining-end, joining-fault}
use Rattle.frames.proofs.join.Goals as goal

pub loop-start-init : goal.loop-start-init
loop-start-init c = joining-start _ _

pub slice_bounds-copy-count : goal.slice_bounds-copy-count
slice_bounds-copy-count c = let m = step_block _ _ _ (sym (ap Ok (sym c.in-Block.is) ∙ c.in_ok-start.ensures.value)) in omega arith

pub slice_bounds-copy-start : goal.slice_bounds-copy-start
slice_bounds-copy-start c = let m = step_block _ _ _ (sym (ap Ok (sym c.in-Block.is) ∙ c.in_ok-start.ensures.value)) in omega arith

pub slice_bounds-copy-end : goal.slice_bounds-copy-end
slice_bounds-copy-end c = let m = step_block _ _ _ (sym (ap Ok (sym c.in-Block.is) ∙ c.in_ok-start.ensures.value)) in omega arith

pub copy-n-requires : goal.copy-n-requires
copy-n-requires c = joining-room c.loop-start.invariant c.requires (sym (ap Ok (sym c.in-Block.is) ∙ c.in_ok-start.ensures.value))

pub loop-start-smaller-in-Block : goal.loop-start-smaller-in-Block
loop-start-smaller-in-Block c = let m = step_block _ _ _ (sym (ap Ok (sym c.in-Block.is) ∙ c.in_ok-start.ensures.value)) in omega arith

pub loop-start-preserved-in-Block : goal.loop-start-preserved-in-Block
loop-start-preserved-in-Block c = joining-block c.loop-start.invariant (sym (ap Ok (sym c.in-Block.is) ∙ c.in_ok-start.ensures.value)) c.copy-n.ensures

pub loop-start-smaller : goal.loop-start-smaller
loop-start-smaller c = let m = step-skipped _ _ _ (sym (ap Ok (sym c.in-Skipped.is) ∙ c.in_ok-start.ensures.value)) in omega arith

pub loop-start-preserved : goal.loop-start-preserved
loop-start-preserved c = joining-skipped c.loop-start.invariant (sym (ap Ok (sym c.in-Skipped.is) ∙ c.in_ok-start.ensures.value))

pub returns-in-End-clause-joins : goal.returns-in-End-clause-joins
returns-in-End-clause-joins c = joining-end c.loop-start.invariant (sym (ap Ok (sym c.in-End.is) ∙ c.in_ok-start.ensures.value))

pub returns-in_err-start-clause-joins : goal.returns-in_err-start-clause-joins
returns-in_err-start-clause-joins c =
    let p = err_from_is_err_and c.from_residual.result c.from_residual.ensures.1 in
    rw (p.1, p.2) (joining-fault c.loop-start.invariant (sym (sym c.in_err-start.was ∙ c.next_block.ensures.value)))
