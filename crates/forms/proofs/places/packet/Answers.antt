-- `forms::places::packet` meets its contract. The loop's invariant: the characters from i on decide, after what their line begins with. Assumes nothing.
use Rattle.std.proofs.Common.{◌≡◌, refl, sym, ap, ◌∙◌, arith}
use Rattle.forms.specs.Places.{begins_in}
use Rattle.forms.specs.PlacesLaws.{begins-on, packet-here, packet-line, packet-later, packet-none}
use Rattle.forms.proofs.places.packet.Goals as goal
use Rattle.forms.proofs.places.packet.Goals.{in-Nothing, in_default}

pub loop-i-init : goal.loop-i-init
loop-i-init c = (omega arith, refl)

pub returns-in-Offset-clause-at : goal.returns-in-Offset-clause-at
returns-in-Offset-clause-at c =
    let t = c.args.text.now in
    let l = c.loop-i in
    let here = packet-here t (begins_in l.so_far) l.line l.i (begins_in c.with-so_far.result) c.loop-i-test.true c.with-so_far.ensures
    (ap begins_in c.in-Offset.is) in
    sym here ∙ l.invariant.1

pub loop-i-preserved : goal.loop-i-preserved
loop-i-preserved c =
    let t = c.args.text.now in
    let l = c.loop-i in
    let k = begins_in c.with-so_far.result in
    elim c.match-so_far.branch [
      | in-Nothing w ↦
          let next = packet-line t (begins_in l.so_far) l.line l.i k c.loop-i-test.true c.with-so_far.ensures (ap begins_in w.in-Nothing.is) in
          (omega (arith, w.line-is), rw w.line-is (next ∙ l.invariant.1))
      | in_default w ↦
          let other = begins-on c.with-so_far.result w.in_default.not-Offset w.in_default.not-Nothing in
          let next = packet-later t (begins_in l.so_far) l.line l.i k c.loop-i-test.true c.with-so_far.ensures other.0 other.1 in
          (omega (arith, w.line-is), rw w.line-is (next ∙ l.invariant.1))
    ]

pub returns-clause-at : goal.returns-clause-at
returns-clause-at c =
    let l = c.loop-i in
    omega (arith, packet-none c.args.text.now (begins_in l.so_far) l.line l.i c.loop-i-test.false, l.invariant.1)
