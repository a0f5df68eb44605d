-- `texts::to_text` meets its contract. The loop's invariant: the first i octets of the text stand in their place. Assumes nothing.
use Rattle.std.proofs.Common.{arith, refl, length-set}
use Rattle.texts.specs.Turns.{text-start, text-dot, text-octet, text-done}
use Rattle.texts.proofs.to_text.Goals.{then-left-eq0, else-left-eq0}
use Rattle.texts.proofs.to_text.Goals as goal

pub loop-i-init : goal.loop-i-init
loop-i-init c = (refl, text-start (omega arith))

pub loop-i-preserved : goal.loop-i-preserved
loop-i-preserved c =
    let i = c.loop-i.invariant in
    elim c.if-left-eq0.branch [
      | then-left-eq0 w ↦ rw (w.out-is, w.left-is) (simp length-set i.0, text-dot (omega arith) i.1 (omega arith) w.if-left-eq0.true)
      | else-left-eq0 w ↦ rw (w.out-is, w.left-is) (simp length-set i.0, text-octet (omega arith) i.1 (omega arith) w.if-left-eq0.false)
    ]

pub returns : goal.returns
returns c = text-done (omega arith) c.loop-i.invariant.1 (omega arith)
