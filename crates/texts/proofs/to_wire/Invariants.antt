use Rattle.std.proofs.Common.{◌≡◌, length}
use Rattle.texts.specs.Turns.{Wired}
use Rattle.texts.proofs.to_wire.Given as goal

abbrev pub invariant-loop-i : goal.invariant-loop-i
invariant-loop-i l = (length l.out ≡ length l.initial.out) × Wired l.at l.text l.initial.out l.out l.i l.label
