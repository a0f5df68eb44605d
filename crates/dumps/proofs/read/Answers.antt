-- `dumps::read` meets its contract. The loop's invariant: reading what is left of the text comes to what reading all comes to. Assumes nothing.
use Rattle.std.proofs.Common.{arith, ap}
use Rattle.dumps.specs.Held.{turn_in}
use Rattle.dumps.specs.HeldLaws.{read-stopped, through, through-star, through-all}
use Rattle.dumps.specs.DumpsLaws.{read-start, read-go}
use Rattle.dumps.proofs.read.Goals as goal
use Rattle.dumps.proofs.read.Goals.{else-loop-i-test, then-loop-i-test+in-Ok+else-i-i-end}

pub loop-i-init : goal.loop-i-init
loop-i-init c = read-start c.begun-s.ensures

pub returns-in-Err : goal.returns-in-Err
returns-in-Err c =
    read-stopped c.loop-i.invariant c.loop-i-test.true c.character.ensures c.take.ensures c.in-Err.stop c.at.result c.in-Err.is c.at.ensures

pub loop-i-preserved : goal.loop-i-preserved
loop-i-preserved c =
    read-go c.loop-i.invariant c.loop-i-test.true c.character.ensures c.take.ensures (ap turn_in c.in-Ok.is)

pub returns-then-s : goal.returns-then-s
returns-then-s c =
    through-star
    (elim c.loop-i-test.branch [
      | else-loop-i-test w ↦ through c.loop-i.invariant w.loop-i-test.false w.out-is w.s-is w.n-is
      | then-loop-i-test+in-Ok+else-i-i-end w ↦
          through (read-go c.loop-i.invariant w.loop-i-test.true w.character.ensures w.take.ensures (ap turn_in w.in-Ok.is)) (omega arith)
          w.out-is w.s-is w.n-is
    ])
    c.if-s.true

pub returns : goal.returns
returns c =
    through-all
    (elim c.loop-i-test.branch [
      | else-loop-i-test w ↦ through c.loop-i.invariant w.loop-i-test.false w.out-is w.s-is w.n-is
      | then-loop-i-test+in-Ok+else-i-i-end w ↦
          through (read-go c.loop-i.invariant w.loop-i-test.true w.character.ensures w.take.ensures (ap turn_in w.in-Ok.is)) (omega arith)
          w.out-is w.s-is w.n-is
    ])
    c.if-s.false
