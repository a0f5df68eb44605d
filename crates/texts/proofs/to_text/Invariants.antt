use Rattle.std.proofs.Common.{◌≡◌, length}
use Rattle.texts.specs.Turns.{Texted}
use Rattle.texts.proofs.to_text.Given as goal

abbrev pub invariant-loop-i : goal.invariant-loop-i
invariant-loop-i l = (length l.out ≡ length l.initial.out) × Texted l.at l.wire l.initial.out l.out l.i l.left
