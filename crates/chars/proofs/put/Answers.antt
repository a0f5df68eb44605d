-- `chars::put` meets its contract: a store, or nothing past the end. Assumes nothing.
use Rattle.std.proofs.Common.{rules, arith, length-set}
use Rattle.io.proofs.Counting.{prefix_len_of_le}
use Rattle.chars.specs.PutsLaws.{puts_one, puts-past}
use Rattle.chars.proofs.put.Goals as goal

pub returns-then-at-out : goal.returns-then-at-out
returns-then-at-out c = record { prefix_len = prefix_len_of_le _ _ (simp length-set (omega arith)); puts = puts_one _ _ _ c.if-at-out.true }

pub returns : goal.returns
returns c = record { prefix_len = prefix_len_of_le _ _ (search rules); puts = puts-past _ _ _ c.if-at-out.false }
