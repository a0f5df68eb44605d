use Rattle.std.proofs.Common.{◌+◌, ◌-◌}
use Rattle.dumps.specs.DumpsLaws.{Repeating}
use Rattle.dumps.proofs.repeat.Given as goal

abbrev pub invariant-loop-i : goal.invariant-loop-i
invariant-loop-i l = Repeating l.initial.out l.from l.n l.upto l.out (l.from + (l.i - l.n)) l.i
