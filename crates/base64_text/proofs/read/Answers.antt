-- `base64_text::read` meets its contract. The loop's invariant: the octets of the characters passed stand at the front of the buffer, and what is
-- left decides on the rest. Assumes nothing.
use Rattle.std.proofs.Common.{◌≡◌, refl, sym, ◌∙◌, length, arith, length-set}
use Rattle.base64_text.specs.Turns.{lay-start, lay-good, lay-short, lay-fault, lay-on, lay-octet, lay-long}
use Rattle.base64_text.specs.HeldLaws.{stands-laying, stands-somewhere, octet-completed, none-completed}
use Rattle.base64_text.proofs.read.Goals as goal
use Rattle.base64_text.proofs.read.Goals.{in-Some-octet+else-out-n, in_default-octet}

pub loop-i-init : goal.loop-i-init
loop-i-init c = (refl, lay-start c.begun-s.ensures)

pub returns-in_default : goal.returns-in_default
returns-in_default c = lay-fault c.loop-i.invariant.1 c.loop-i-test.true refl c.in_default.ensures

pub returns-then-out-n : goal.returns-then-out-n
returns-then-out-n c =
    let inv = c.loop-i.invariant in
    let stands = c.in-Some.ensures in
    let done = octet-completed stands c.in-Some-octet.is in
    lay-long inv.1 c.loop-i-test.true refl (stands-somewhere stands) done.0 (omega (arith, inv.0, c.if-out-n.true))

pub loop-i-preserved : goal.loop-i-preserved
loop-i-preserved c =
    let inv = c.loop-i.invariant in
    let stands = c.in-Some.ensures in
    elim c.match-t.branch [
      | in-Some-octet+else-out-n w ↦
          let done = octet-completed stands w.in-Some-octet.is in
          let laid = lay-octet inv.1 c.loop-i-test.true refl (stands-somewhere stands) done.0 (omega (arith, inv.0, w.if-out-n.false)) in
          rw (w.out-is, w.n-is) (simp length-set inv.0, stands-laying stands (rw (← done.1) laid))
      | in_default-octet w ↦
          rw (w.out-is, w.n-is) (
            inv.0,
            stands-laying stands
                (lay-on inv.1 c.loop-i-test.true refl (stands-somewhere stands) (none-completed stands w.in_default-octet.not-Some)),
          )
    ]

pub returns-then-whole : goal.returns-then-whole
returns-then-whole c =
    lay-good c.loop-i.invariant.1 c.loop-i-test.false (sym c.whole.ensures ∙ c.if-whole.true)

pub returns : goal.returns
returns c =
    let inv = c.loop-i.invariant in
    let all : length c.args.text.now ≡ c.loop-i.i = omega (arith, inv.1.within, c.loop-i-test.false) in
    rw all (lay-short inv.1 c.loop-i-test.false (sym c.whole.ensures ∙ c.if-whole.false))
