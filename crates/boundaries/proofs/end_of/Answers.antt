-- `boundaries::end_of` meets its contract: each return is a case of the definition. Assumes nothing.
use Rattle.std.proofs.Common.{arith}
use Rattle.boundaries.specs.CasesLaws.{end-head, end_short, end_whole}
use Rattle.boundaries.proofs.end_of.Goals as goal

pub returns-then-s-at-lt-SIZES : goal.returns-then-s-at-lt-SIZES
returns-then-s-at-lt-SIZES c = record { value = end-head _ _ c.if-s-at-lt-SIZES.true; past = tt }

pub returns-then-s-start : goal.returns-then-s-start
returns-then-s-start c =
    let long = c.get32-long.ensures.value in
    record { value = end_short _ _ (omega arith) (rw long at c.if-s-start.true); past = tt }

pub returns : goal.returns
returns c =
    let long = c.get32-long.ensures.value in
    record { value = rw long (end_whole _ _ (omega arith) (rw long at c.if-s-start.false)); past = (omega arith, omega arith) }
