-- `groups::escapes::read` meets its contract. The loop's invariant: the characters taken and those that are left decide. Assumes nothing.
use Rattle.std.proofs.Common.{refl, ap, arith, length-set}
use Rattle.groups.specs.EscapesHeld.{number_of, somewhere, not-low}
use Rattle.groups.specs.EscapesLaws.{escape-start, escape-none, escape-long, escape-octet, escape-on, escape-done}
use Rattle.groups.proofs.escapes.read.Goals as goal
use Rattle.groups.proofs.escapes.read.Goals.{in-Low+else-out-n, in_default-to}

pub loop-i-init : goal.loop-i-init
loop-i-init c = (refl, escape-start)

pub returns-in_default : goal.returns-in_default
returns-in_default c =
    escape-none c.loop-i.invariant.1 c.loop-i-test.true c.character-x.ensures c.in_default.ensures refl

pub returns-then-out-n : goal.returns-then-out-n
returns-then-out-n c =
    escape-long c.loop-i.invariant.1 c.loop-i-test.true c.character-x.ensures c.in-Some.ensures (ap number_of c.in-Low.is) c.if-out-n.true

pub loop-i-preserved : goal.loop-i-preserved
loop-i-preserved c =
    let inv = c.loop-i.invariant in
    elim c.match-to.branch [
      | in-Low+else-out-n w ↦
          rw (w.out-is, w.n-is) (
            simp length-set inv.0,
            escape-octet inv.1 c.loop-i-test.true c.character-x.ensures c.in-Some.ensures (ap number_of w.in-Low.is) w.if-out-n.false w.octet.ensures,
          )
      | in_default-to w ↦
          rw (w.out-is, w.n-is) (
            inv.0,
            escape-on inv.1 c.loop-i-test.true c.character-x.ensures c.in-Some.ensures (somewhere c.in-Some.to) (not-low c.in-Some.to w.in_default-to.not-Low),
          )
    ]

pub returns-after-to : goal.returns-after-to
returns-after-to c =
    let inv = c.loop-i.invariant in
    elim c.match-to.branch [
      | in-Low+else-out-n w ↦
          rw (w.out-is, w.n-is)
          (escape-done
          (escape-octet inv.1 c.loop-i-test.true c.character-x.ensures c.in-Some.ensures (ap number_of w.in-Low.is) w.if-out-n.false w.octet.ensures)
          (omega arith))
      | in_default-to w ↦
          rw (w.out-is, w.n-is)
          (escape-done
          (escape-on inv.1 c.loop-i-test.true c.character-x.ensures c.in-Some.ensures (somewhere c.in-Some.to) (not-low c.in-Some.to w.in_default-to.not-Low))
          (omega arith))
    ]
