-- `findings::place` meets its contract. The invariant: octet j is octet `left` of the bodies that are still to come. The measure is what is left of
-- the area. Assumes nothing.
use Rattle.std.proofs.Common.{sym, arith, ap, ◌∙◌, Ok}
use Rattle.frames.specs.Laws.{step_block, step-skipped}
use Rattle.findings.specs.PlacingLaws.{placing-start, placing-found, placing-block, placing-skipped, placing-end, placing-fault}
use Rattle.findings.proofs.place.Goals as goal

pub loop-start-init : goal.loop-start-init
loop-start-init c = placing-start _ _

pub overflow_sub-n : goal.overflow_sub-n
overflow_sub-n c =
    let m = step_block _ _ _ (sym c.next_block.ensures.value ∙ c.in-Ok-Block.is ∙ ap Ok c.in-Ok-Block.field-0-is) in omega arith

pub returns-then-left-n : goal.returns-then-left-n
returns-then-left-n c =
    placing-found c.loop-start.invariant (sym c.next_block.ensures.value ∙ c.in-Ok-Block.is ∙ ap Ok c.in-Ok-Block.field-0-is) c.if-left-n.true

pub loop-start-smaller-in-Ok-Block : goal.loop-start-smaller-in-Ok-Block
loop-start-smaller-in-Ok-Block c =
    let m = step_block _ _ _ (sym c.next_block.ensures.value ∙ c.in-Ok-Block.is ∙ ap Ok c.in-Ok-Block.field-0-is) in omega arith

pub loop-start-preserved-in-Ok-Block : goal.loop-start-preserved-in-Ok-Block
loop-start-preserved-in-Ok-Block c =
    placing-block c.loop-start.invariant (sym c.next_block.ensures.value ∙ c.in-Ok-Block.is ∙ ap Ok c.in-Ok-Block.field-0-is) c.if-left-n.false

pub loop-start-smaller : goal.loop-start-smaller
loop-start-smaller c =
    let m = step-skipped _ _ _ (sym c.next_block.ensures.value ∙ c.in-Ok-Skipped.is ∙ ap Ok c.in-Ok-Skipped.field-0-is) in omega arith

pub loop-start-preserved : goal.loop-start-preserved
loop-start-preserved c =
    placing-skipped c.loop-start.invariant (sym c.next_block.ensures.value ∙ c.in-Ok-Skipped.is ∙ ap Ok c.in-Ok-Skipped.field-0-is)

pub returns-in-Ok-End : goal.returns-in-Ok-End
returns-in-Ok-End c = placing-end c.loop-start.invariant (sym c.next_block.ensures.value ∙ c.in-Ok-End.is ∙ ap Ok c.in-Ok-End.field-0-is)

pub returns-in-Err : goal.returns-in-Err
returns-in-Err c = placing-fault c.loop-start.invariant (sym c.in-Err.ensures.value)
