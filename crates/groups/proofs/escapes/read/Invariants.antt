use Rattle.std.proofs.Common.{◌≡◌, length}
use Rattle.groups.specs.EscapesHeld.{number_of}
use Rattle.groups.specs.EscapesLaws.{Escaping}
use Rattle.groups.proofs.escapes.read.Given as goal

abbrev pub invariant-loop-i : goal.invariant-loop-i
invariant-loop-i l = (length l.out ≡ length l.initial.out) × Escaping l.text l.initial.out (number_of l.at) l.high l.n l.i l.out
