-- `words::line_end` meets its contract. The loop's invariant: the first line break after `from` is the first after i. Assumes nothing.
use Rattle.std.proofs.Common.{arith}
use Rattle.words.specs.EncodedLaws.{break-here, break-later, break-none}
use Rattle.words.proofs.line_end.Goals as goal

pub returns-then-s-i-eq10 : goal.returns-then-s-i-eq10
returns-then-s-i-eq10 c =
    (omega (arith, break-here c.args.s.now c.loop-i.i (omega arith) (omega arith)), omega arith)

pub loop-i-preserved : goal.loop-i-preserved
loop-i-preserved c =
    omega (arith, break-later c.args.s.now c.loop-i.i (omega arith) (omega arith))

pub returns : goal.returns
returns c =
    (omega (arith, break-none c.args.s.now c.loop-i.i (omega arith)), omega arith)
