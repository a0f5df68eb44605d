-- `groups::read` meets its contract. The loop's invariant: the characters taken and those that are left decide. Assumes nothing.
use Rattle.std.proofs.Common.{refl, ◌∙◌, arith, length-set}
use Rattle.groups.specs.GroupsLaws.{read-start, read_done, turn-refused, turn-full, turn-laid, turn-waiting}
use Rattle.groups.specs.Held.{state_in}
use Rattle.groups.specs.HeldLaws.{reason-known}
use Rattle.groups.proofs.read.Goals as goal
use Rattle.groups.proofs.read.Goals.{then-s+else-out-n, else-s}

pub loop-i-init : goal.loop-i-init
loop-i-init c = record { size = refl; kind = c.begun-s.ensures.kind; reading = read-start c.begun-s.ensures.begun }

pub returns-in-Err : goal.returns-in-Err
returns-in-Err c =
    let inv = c.loop-i.invariant in
    turn-refused inv.kind inv.reading (omega (arith, c.loop-i-test.true)) c.character.ensures (reason-known c.in-Err.why) c.in-Err.ensures

pub returns-then-out-n : goal.returns-then-out-n
returns-then-out-n c =
    let inv = c.loop-i.invariant in
    turn-full inv.kind inv.reading (omega (arith, c.loop-i-test.true)) c.character.ensures (state_in c.moved.new.self) c.in_default.ensures.0 refl c.if-s.true
    c.if-out-n.true

pub loop-i-preserved : goal.loop-i-preserved
loop-i-preserved c =
    let inv = c.loop-i.invariant in
    elim c.if-s.branch [
      | then-s+else-out-n w ↦
          rw (w.out-is, w.n-is) (record {
            size = simp length-set inv.size;
            kind = c.in_default.ensures.1 ∙ inv.kind;
            reading =
                turn-laid inv.kind inv.reading (omega (arith, c.loop-i-test.true)) c.character.ensures (state_in c.moved.new.self) c.in_default.ensures.0 refl
                w.if-s.true
                w.if-out-n.false;
          })
      | else-s w ↦
          rw (w.out-is, w.n-is) (record {
            size = inv.size;
            kind = c.in_default.ensures.1 ∙ inv.kind;
            reading =
                turn-waiting inv.kind inv.reading (omega (arith, c.loop-i-test.true)) c.character.ensures (state_in c.moved.new.self) c.in_default.ensures.0 refl
                w.if-s.false;
          })
    ]

pub returns : goal.returns
returns c = read_done c.loop-i.invariant.reading (omega (arith, c.loop-i-test.false))
