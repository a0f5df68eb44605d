-- `writing::total_size` meets its contract, by the carrier's row of the table. Assumes nothing.
use Rattle.std.proofs.Common.{◌∙◌}
use Rattle.writing.specs.LayingLaws.{total-joined, total-other}
use Rattle.writing.proofs.total_size.Goals as goal

pub returns-then-facts : goal.returns-then-facts
returns-then-facts c =
    let a = c.args in
    c.cut_size.ensures ∙ total-joined a.c c.facts.ensures a.size c.if-facts.true

pub returns-else-facts : goal.returns-else-facts
returns-else-facts c = let a = c.args in total-other a.c c.facts.ensures a.size c.if-facts.false
