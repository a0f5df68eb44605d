-- `dumps::fill` meets its contract: the tests in order. Assumes nothing.
use Rattle.dumps.specs.DumpsLaws.{fill_none, fill-early, fill-part, fill-long, fill-whole}
use Rattle.dumps.proofs.fill.Goals as goal

pub returns-then-upto-n : goal.returns-then-upto-n
returns-then-upto-n c = fill_none _ _ _ _ c.if-upto-n.true

pub returns-then-n-from : goal.returns-then-n-from
returns-then-n-from c = fill-early _ _ _ _ c.if-upto-n.false c.if-n-from.true

pub returns-then-upto-n-ne0 : goal.returns-then-upto-n-ne0
returns-then-upto-n-ne0 c = fill-part _ _ _ _ c.if-upto-n.false c.if-n-from.false c.if-upto-n-ne0.true

pub returns-then-out-upto : goal.returns-then-out-upto
returns-then-out-upto c =
    fill-long _ _ _ _ c.if-upto-n.false c.if-n-from.false c.if-upto-n-ne0.false c.if-out-upto.true

pub returns : goal.returns
returns c =
    fill-whole _ _ _ _ c.if-upto-n.false c.if-n-from.false c.if-upto-n-ne0.false c.if-out-upto.false c.repeat.ensures
