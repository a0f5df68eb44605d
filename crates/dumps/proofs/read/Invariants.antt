use Rattle.dumps.specs.DumpsLaws.{Reading}
use Rattle.dumps.specs.Held.{state_in}
use Rattle.dumps.proofs.read.Given as goal

abbrev pub invariant-loop-i : goal.invariant-loop-i
invariant-loop-i l = Reading l.style l.text l.initial.out l.out (state_in l.s) l.n l.i
