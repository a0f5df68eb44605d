-- `telling::Teller::blocks` meets its contract. The invariant: the walk is within the area, and the bodies met are counted, and how many of them are
-- discarded. The measure is what is left of the area. Assumes nothing.
use Rattle.std.proofs.Common.{sym, arith, ap, ◌∙◌, Ok}
use Rattle.frames.specs.Laws.{step_block, step-skipped}
use Rattle.frames.proofs.GatherLaws.{part_length}
use Rattle.telling.specs.DiscardedLaws.{counting-start, counting-block, counting-skipped, counting-end, counting-fault}
use Rattle.telling.proofs.Teller.blocks.Goals as goal

pub slice_bounds-block-count : goal.slice_bounds-block-count
slice_bounds-block-count g c =
    (step_block _ _ _ (sym c.next_block.ensures.value ∙ c.in-Ok-Block.is ∙ ap Ok c.in-Ok-Block.field-0-is)).1

pub slice_bounds-block-start : goal.slice_bounds-block-start
slice_bounds-block-start g c =
    (step_block _ _ _ (sym c.next_block.ensures.value ∙ c.in-Ok-Block.is ∙ ap Ok c.in-Ok-Block.field-0-is)).1

pub slice_bounds-block-end : goal.slice_bounds-block-end
slice_bounds-block-end g c =
    (step_block _ _ _ (sym c.next_block.ensures.value ∙ c.in-Ok-Block.is ∙ ap Ok c.in-Ok-Block.field-0-is)).2

pub block-n-requires : goal.block-n-requires
block-n-requires g c =
    let a = c.args.self.now in
    let m = step_block _ _ _ (sym c.next_block.ensures.value ∙ c.in-Ok-Block.is ∙ ap Ok c.in-Ok-Block.field-0-is) in
    omega (arith, m, part_length c.in-Ok-Block.start c.in-Ok-Block.end a.area.now m.2)

pub loop-start-smaller-in-Ok-Block : goal.loop-start-smaller-in-Ok-Block
loop-start-smaller-in-Ok-Block g c =
    let m = step_block _ _ _ (sym c.next_block.ensures.value ∙ c.in-Ok-Block.is ∙ ap Ok c.in-Ok-Block.field-0-is) in omega arith

pub loop-start-preserved-in-Ok-Block : goal.loop-start-preserved-in-Ok-Block
loop-start-preserved-in-Ok-Block g c =
    let m = step_block _ _ _ (sym c.next_block.ensures.value ∙ c.in-Ok-Block.is ∙ ap Ok c.in-Ok-Block.field-0-is) in
    (omega (arith, m, c.loop-start.invariant.0), counting-block _ _ c.loop-start.invariant.1 (sym c.next_block.ensures.value ∙ c.in-Ok-Block.is ∙ ap Ok c.in-Ok-Block.field-0-is) c.block-n.ensures)

pub loop-start-smaller : goal.loop-start-smaller
loop-start-smaller g c =
    let m = step-skipped _ _ _ (sym c.next_block.ensures.value ∙ c.in-Ok-Skipped.is ∙ ap Ok c.in-Ok-Skipped.field-0-is) in omega arith

pub loop-start-preserved : goal.loop-start-preserved
loop-start-preserved g c =
    let m = step-skipped _ _ _ (sym c.next_block.ensures.value ∙ c.in-Ok-Skipped.is ∙ ap Ok c.in-Ok-Skipped.field-0-is) in
    (omega (arith, m, c.loop-start.invariant.0), counting-skipped _ _ c.loop-start.invariant.1 (sym c.next_block.ensures.value ∙ c.in-Ok-Skipped.is ∙ ap Ok c.in-Ok-Skipped.field-0-is))

pub returns-in-Ok-End : goal.returns-in-Ok-End
returns-in-Ok-End g c =
    counting-end _ _ c.loop-start.invariant.1 c.requires (sym c.next_block.ensures.value ∙ c.in-Ok-End.is ∙ ap Ok c.in-Ok-End.field-0-is)

pub loop-start-init : goal.loop-start-init
loop-start-init g c = (omega arith, counting-start _ _)

pub returns-in-Err : goal.returns-in-Err
returns-in-Err g c = counting-fault _ _ c.loop-start.invariant.1 (sym c.in-Err.ensures.value)
