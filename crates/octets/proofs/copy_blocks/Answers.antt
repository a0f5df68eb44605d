-- `octets::copy_blocks` meets its contract. The loop's invariant: the blocks that are done are written; the last block reaches back to them.
-- Assumes nothing.
use Rattle.std.proofs.Common.{◌≡◌, ◌∙◌, refl, ap, ℕ, List, [], ◌++◌, ◌+◌, ◌-◌, length, take, append_assoc, length-append, take-append-drop, take_at, arith}
use Rattle.octets.specs.OverLaws.{wrote_none, reaching-back, then}
use Rattle.octets.specs.ListsLaws.{take_rest}
use Rattle.octets.proofs.copy_blocks.Goals as goal

pub loop-rest-init : goal.loop-rest-init
loop-rest-init c = ([], refl, wrote_none (omega arith))

pub loop-rest-preserved : goal.loop-rest-preserved
loop-rest-preserved c =
    let i = c.loop-rest.invariant in
    let block = c.split_at.result.0.now in
    let more = c.split_at.result.1.now in
    let parted : block ++ more ≡ c.loop-rest.rest.now = rw (← c.split_at.ensures.front, ← c.split_at.ensures.back) at (take-append-drop 16 c.loop-rest.rest.now) in
    (i.0 ++ block, append_assoc i.0 block more ∙ ap (λ (x : List ℕ). i.0 ++ x) parted ∙ i.1, then i.2 c.copy_held-o.ensures)

pub returns : goal.returns
returns c =
    let a = c.args in
    let i = c.loop-rest.invariant in
    let last = length a.src.now - 16 in
    let rest = c.loop-rest.rest.now in
    let size : length i.0 + length rest ≡ length a.src.now = simp length-append at (ap length i.1) in
    let front : take (length i.0) a.src.now ≡ i.0 = rw i.1 at (take_at i.0 rest (length i.0) refl) in
    reaching-back (length i.0) last a.src.now (omega (arith, size, c.loop-rest-test.false)) (omega arith) refl (rw (← front) at i.2) (rw (take_rest last a.src.now) at c.copy_held.ensures)
