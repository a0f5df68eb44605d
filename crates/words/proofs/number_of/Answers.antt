-- `words::number_of` meets its contract. The loop's invariant: the octets from `entry` on have the words' number. Assumes nothing.
use Rattle.std.proofs.Common.{sym, ◌∙◌, arith}
use Rattle.words.specs.EncodedLaws.{number-found, number_passed, number-missing}
use Rattle.words.proofs.number_of.Goals as goal

pub returns-then-same : goal.returns-then-same
returns-then-same c =
    let a = c.args in
    let t = sym c.same.ensures ∙ c.if-same.true in
    c.from.ensures ∙ number-found a.word.now a.table.now c.loop-entry.entry c.line_end-end.result (omega arith) (omega arith) t ∙ c.loop-entry.invariant

pub loop-entry-preserved : goal.loop-entry-preserved
loop-entry-preserved c =
    let a = c.args in
    let t = sym c.same.ensures ∙ c.if-same.false in
    number_passed a.word.now a.table.now c.loop-entry.entry c.line_end-end.result (omega arith) (omega arith) t ∙ c.loop-entry.invariant

pub returns : goal.returns
returns c =
    let a = c.args in
    number-missing a.word.now a.table.now c.loop-entry.entry c.loop-entry-test.false ∙ c.loop-entry.invariant
