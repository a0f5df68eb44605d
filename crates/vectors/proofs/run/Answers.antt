-- `vectors::run` meets its contract. The loop's invariant: the answers of the lines before `at` are written. Assumes nothing.
use Rattle.std.proofs.Common.{refl, arith}
use Rattle.io.proofs.Counting.{prefix_len_of_le}
use Rattle.chars.specs.PutsLaws.{puts-within}
use Rattle.vectors.specs.LinesLaws.{answering-none, answering-line, answering-all}
use Rattle.vectors.proofs.run.Goals as goal

pub loop-at-init : goal.loop-at-init
loop-at-init c = let a = c.args in (refl, answering-none a.s.now a.out.now)

pub loop-at-preserved : goal.loop-at-preserved
loop-at-preserved c = (
  omega arith,
  answering-line c.loop-at.invariant.1 c.loop-at-test.true c.line_end-end.ensures.0 c.put_line-o.ensures c.put-o.ensures.puts,
)

pub returns : goal.returns
returns c =
    let p = answering-all c.loop-at.invariant.1 c.loop-at-test.false in
    record { prefix_len = prefix_len_of_le _ _ (puts-within p); puts = p }
