-- `words::put_found` meets its contract. The loop's invariant: the octets from i on have the number's words. Assumes nothing.
use Rattle.std.proofs.Common.{refl, ◌∙◌, arith}
use Rattle.chars.specs.PutsLaws.{puts-as}
use Rattle.words.specs.EncodedLaws.{found, passed, missing}
use Rattle.words.proofs.put_found.Goals as goal

pub loop-i-init : goal.loop-i-init
loop-i-init c = (refl, refl, refl)

pub returns-then-from-number : goal.returns-then-from-number
returns-then-from-number c =
    let p = c.put_all in
    let a = c.args in
    let words = found a.number a.table.now c.loop-i.i c.line_end-end.result (omega arith) (omega arith) (omega arith) in
    rw c.loop-i.invariant.0 at (puts-as (words ∙ c.loop-i.invariant.2) p.ensures.puts)

pub loop-i-preserved : goal.loop-i-preserved
loop-i-preserved c =
    let a = c.args in
    let words = passed a.number a.table.now c.loop-i.i c.line_end-end.result (omega arith) (omega arith) (omega arith) in
    (c.loop-i.invariant.0, c.loop-i.invariant.1, words ∙ c.loop-i.invariant.2)

pub returns : goal.returns
returns c =
    let p = c.put_all-2 in
    let a = c.args in
    rw c.loop-i.invariant.0 at (puts-as (missing a.number a.table.now c.loop-i.i (omega arith) ∙ c.loop-i.invariant.2) p.ensures.puts)
