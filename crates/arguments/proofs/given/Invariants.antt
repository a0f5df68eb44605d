use Rattle.arguments.specs.LineLaws.{Taken}
use Rattle.arguments.proofs.given.Given as goal

abbrev pub invariant-loop-i : goal.invariant-loop-i
invariant-loop-i g l = Taken l.initial.a l.a l.i
