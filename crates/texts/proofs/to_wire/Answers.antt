-- `texts::to_wire` meets its contract. The loop's invariant: the wire form of the octets from i on stands in its place. Assumes nothing.
use Rattle.std.proofs.Common.{arith, ℕ, List, refl, ◌+◌, ◌-◌, ◌≤◌, length, set, length-set}
use Rattle.texts.specs.Turns.{wire-start, wire-dot, wire-octet, wire-done, label_small}
use Rattle.texts.proofs.to_wire.Goals as goal

-- the root label takes no room
room : (at n : ℕ) (l : List ℕ) → at + n + 2 ≤ length l → at + n + 2 ≤ length (set l (at + 1 + n) 0)
room at n l h = simp length-set h

pub loop-i-init : goal.loop-i-init
loop-i-init c = (refl, wire-start c.args.out.now (omega arith))

pub loop-i-preserved-then-b-eq46 : goal.loop-i-preserved-then-b-eq46
loop-i-preserved-then-b-eq46 c =
    let w = wire-dot (room _ _ _ c.requires.0) c.loop-i.invariant.1 (c.loop-i.i - 1) (omega arith) c.if-b-eq46.true in
    (simp length-set (simp length-set at c.loop-i.invariant.0), w)

pub overflow_add-label : goal.overflow_add-label
overflow_add-label c = omega (arith, label_small (room _ _ _ c.requires.0) c.loop-i.invariant.1)

pub loop-i-preserved : goal.loop-i-preserved
loop-i-preserved c =
    let w = wire-octet (room _ _ _ c.requires.0) c.loop-i.invariant.1 (c.loop-i.i - 1) (omega arith) c.if-b-eq46.false in
    (simp length-set (simp length-set at c.loop-i.invariant.0), w)

pub returns : goal.returns
returns c = wire-done (room _ _ _ c.requires.0) c.loop-i.invariant.1 c.args.out.now refl (omega arith)
