use Rattle.std.proofs.Common.{◌≡◌, length}
use Rattle.base64_text.specs.Turns.{Laying}
use Rattle.base64_text.specs.Held.{quantum_in}
use Rattle.base64_text.proofs.read.Given as goal

abbrev pub invariant-loop-i : goal.invariant-loop-i
invariant-loop-i l = (length l.out ≡ length l.initial.out) × Laying l.text l.initial.out l.out (quantum_in l.s) l.n l.i
