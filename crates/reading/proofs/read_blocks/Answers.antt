-- `reading::read_blocks` meets its contract. The invariant: what is counted tells of the blocks passed, no flaw is held while none is discarded,
-- and nothing is written. The measure is what is left of the area. Assumes nothing.
use Rattle.std.proofs.Common.{List, ◌≤◌, ◌≡◌, refl, sym, ap, ◌∙◌, arith, ℕ, length, Ok, Err}
use Rattle.frames.specs.declared.Step.{Step}
use Rattle.frames.specs.Frame.{frame}
use Rattle.frames.specs.Step.{step_at}
use Rattle.frames.specs.Laws.{step_block, step-body, step-skipped}
use Rattle.frames.specs.SkipLaws.{skips-forward, skips-step, skips-then}
use Rattle.reading.specs.Reading.{read_framed}
use Rattle.carriers.specs.Carriers.{header_of}
use Rattle.judge.specs.Place.{Judged, from, flawed}
use Rattle.reading.specs.Tally.{first_in, Open, Tally}
use Rattle.reading.specs.TallyLaws.{holds-new, holds-ready, tallying-start, tallying-open, tallying-discarded, tallying-keeps, tallying-skips}
use Rattle.reading.specs.AnswerLaws.{reads_as, reads-from, reads-refused, answer-end, answer-fault}
use Rattle.carriers.specs.declared.Carrier.{Carrier}
use Rattle.numbers.specs.Limit as limit
use Rattle.reading.specs.Walks.{Tallying}
use Rattle.reading.proofs.Seeing.{fault-some, counted-back, seen_body}
use Rattle.reading.proofs.read_blocks.Goals.{then-discarded-eq0, else-discarded-eq0}
use Rattle.reading.proofs.read_blocks.Goals as goal

-- before a block there is room in the counts for one more
opened : {c : Carrier} {area : List ℕ} {at start end : ℕ} {t : Tally} → Tallying c area at t → step_at c area at ≡ Ok (Step.Block start end)
    → length area ≤ limit.input → Open t
opened g block few = let m = step_block _ _ _ block in tallying-open _ _ g (omega (arith, m.0, m.2, few))

pub loop-start-init : goal.loop-start-init
loop-start-init c = (tallying-start _ _ (holds-new _ _ c.new-held.ensures.none c.new-held.ensures.value), λ z. refl, refl)

pub next_block-requires : goal.next_block-requires
next_block-requires c = c.loop-start.invariant.0.walked.within

pub slice_bounds-examine-count : goal.slice_bounds-examine-count
slice_bounds-examine-count c = let m = step_block _ _ _ (sym c.next_block.ensures.value ∙ c.in-Ok-Block.is ∙ ap Ok c.in-Ok-Block.field-0-is) in omega arith

pub slice_bounds-examine-start : goal.slice_bounds-examine-start
slice_bounds-examine-start c = let m = step_block _ _ _ (sym c.next_block.ensures.value ∙ c.in-Ok-Block.is ∙ ap Ok c.in-Ok-Block.field-0-is) in omega arith

pub slice_bounds-examine-end : goal.slice_bounds-examine-end
slice_bounds-examine-end c = let m = step_block _ _ _ (sym c.next_block.ensures.value ∙ c.in-Ok-Block.is ∙ ap Ok c.in-Ok-Block.field-0-is) in omega arith

pub overflow_add-found : goal.overflow_add-found
overflow_add-found c =
    let o = opened c.loop-start.invariant.0 (sym c.next_block.ensures.value ∙ c.in-Ok-Block.is ∙ ap Ok c.in-Ok-Block.field-0-is) c.requires.1 in
    omega (arith, o.found)

pub back-requires : goal.back-requires
back-requires c =
    let m = step_block _ _ _ (sym c.next_block.ensures.value ∙ c.in-Ok-Block.is ∙ ap Ok c.in-Ok-Block.field-0-is) in
    let seen = seen_body _ _ _ _ m.1 m.2 (Err c.in-Err-examine.flaw) c.in-Err-examine.ensures.value c.in-Err-examine.ensures.bounds in
    omega (arith, step-body _ _ _ (sym c.next_block.ensures.value ∙ c.in-Ok-Block.is ∙ ap Ok c.in-Ok-Block.field-0-is), seen.near, seen.low, seen.high, c.requires.1, c.header_size.ensures)

pub overflow_add-discarded : goal.overflow_add-discarded
overflow_add-discarded c =
    let o = opened c.loop-start.invariant.0 (sym c.next_block.ensures.value ∙ c.in-Ok-Block.is ∙ ap Ok c.in-Ok-Block.field-0-is) c.requires.1 in
    omega (arith, o.found, o.discarded)

pub loop-start-smaller-in-Err-examine : goal.loop-start-smaller-in-Err-examine
loop-start-smaller-in-Err-examine c = let m = step_block _ _ _ (sym c.next_block.ensures.value ∙ c.in-Ok-Block.is ∙ ap Ok c.in-Ok-Block.field-0-is) in omega arith

-- A block that is discarded: the first gives its fault, with its place counted from the header's first octet, and a later one changes nothing. Octets of
-- the header, fault and place are each asked as an equation, so that the same flaw written in another way passes.
pub loop-start-preserved-in-Err-examine : goal.loop-start-preserved-in-Err-examine
loop-start-preserved-in-Err-examine c =
    let flaw = c.in-Err-examine.flaw in
    let block = (sym c.next_block.ensures.value ∙ c.in-Ok-Block.is ∙ ap Ok c.in-Ok-Block.field-0-is) in
    let m = step_block _ _ _ block in
    let seen = seen_body _ _ _ _ m.1 m.2 (Err flaw) c.in-Err-examine.ensures.value c.in-Err-examine.ensures.bounds in
    let i = c.loop-start.invariant in
    let later : (c.loop-start.discarded ≡ 0 → ⊥) → first_in c.if-discarded-eq0.first ≡ first_in c.loop-start.first =
    elim c.if-discarded-eq0.branch [
      | then-discarded-eq0 w ↦ λ n. absurd (n (omega (arith, w.if-discarded-eq0.true)))
      | else-discarded-eq0 w ↦ λ n. ap first_in w.first-is
    ] in
    let first : c.loop-start.discarded ≡ 0 → first_in c.if-discarded-eq0.first ≡ from (header_of c.args.c) (flawed flaw) =
    elim c.if-discarded-eq0.branch [
      | then-discarded-eq0 w ↦ λ z. ap first_in w.first-is
          ∙ counted-back _ w.back.result flaw w.back.ensures (omega (arith, w.header_size.ensures)) (search (arith, ap (λ (j : Judged). j.fault) w.back.ensures, i.1 z)) (omega arith)
      | else-discarded-eq0 w ↦ λ z. absurd (w.if-discarded-eq0.false (omega (arith, z)))
    ] in
    (tallying-discarded _ _ i.0 block seen (fault-some flaw.fault) first later, λ z. absurd (omega arith), i.2)

pub keep-requires : goal.keep-requires
keep-requires c =
    let m = step_block _ _ _ (sym c.next_block.ensures.value ∙ c.in-Ok-Block.is ∙ ap Ok c.in-Ok-Block.field-0-is) in
    let o = opened c.loop-start.invariant.0 (sym c.next_block.ensures.value ∙ c.in-Ok-Block.is ∙ ap Ok c.in-Ok-Block.field-0-is) c.requires.1 in
    record { place = (m.1, omega (arith, m.2, c.requires.1)); bounds = (c.in-Ok.ensures.bounds.0, c.in-Ok.ensures.bounds.1, o.small) }

pub loop-start-smaller-in-Ok : goal.loop-start-smaller-in-Ok
loop-start-smaller-in-Ok c = let m = step_block _ _ _ (sym c.next_block.ensures.value ∙ c.in-Ok-Block.is ∙ ap Ok c.in-Ok-Block.field-0-is) in omega arith

pub loop-start-preserved-in-Ok : goal.loop-start-preserved-in-Ok
loop-start-preserved-in-Ok c =
    let block = (sym c.next_block.ensures.value ∙ c.in-Ok-Block.is ∙ ap Ok c.in-Ok-Block.field-0-is) in
    let m = step_block _ _ _ block in
    let seen = seen_body _ _ _ _ m.1 m.2 (Ok c.in-Ok.e) c.in-Ok.ensures.value c.in-Ok.ensures.bounds in
    let i = c.loop-start.invariant in
    (tallying-keeps _ _ i.0 block seen refl c.keep.ensures, i.1, i.2)

pub skip_foreign-at-requires : goal.skip_foreign-at-requires
skip_foreign-at-requires c = (step-skipped _ _ _ (sym c.next_block.ensures.value ∙ c.in-Ok-Skipped.is ∙ ap Ok c.in-Ok-Skipped.field-0-is)).1

pub loop-start-smaller : goal.loop-start-smaller
loop-start-smaller c = let m = step-skipped _ _ _ (sym c.next_block.ensures.value ∙ c.in-Ok-Skipped.is ∙ ap Ok c.in-Ok-Skipped.field-0-is) in omega (arith, skips-forward c.skip_foreign-at.ensures)

pub loop-start-preserved : goal.loop-start-preserved
loop-start-preserved c =
    let i = c.loop-start.invariant in
    (tallying-skips _ _ i.0 (skips-then (skips-step _ _ _ (sym c.next_block.ensures.value ∙ c.in-Ok-Skipped.is ∙ ap Ok c.in-Ok-Skipped.field-0-is)) c.skip_foreign-at.ensures), i.1, i.2)

pub settle-requires : goal.settle-requires
settle-requires c = holds-ready c.loop-start.invariant.0.shows.holds

pub shape_of-out-in-Ok-End : goal.shape_of-out-in-Ok-End
shape_of-out-in-Ok-End c = omega (arith, ap length c.loop-start.invariant.2)

pub returns-in-Ok-End : goal.returns-in-Ok-End
returns-in-Ok-End c =
    let a = c.args in
    let end = sym c.next_block.ensures.value ∙ c.in-Ok-End.is ∙ ap Ok c.in-Ok-End.field-0-is in
    reads-from (read_framed a.c (frame a.c a.area.now)) c.loop-start.invariant.2
    (reads_as (answer-end _ _ _ c.loop-start.invariant.0 c.requires.0 end) c.settle.ensures)

pub shape_of-out-in-Err : goal.shape_of-out-in-Err
shape_of-out-in-Err c = ap length c.loop-start.invariant.2

pub returns-in-Err : goal.returns-in-Err
returns-in-Err c =
    let a = c.args in
    reads-from (read_framed a.c (frame a.c a.area.now)) c.loop-start.invariant.2
    (reads-refused _ (answer-fault _ _ _ c.loop-start.invariant.0 (sym c.in-Err.ensures.value)) c.refused.ensures)
