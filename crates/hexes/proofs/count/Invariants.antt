use Rattle.std.proofs.Common.{length}
use Rattle.hexes.specs.Turns.{Counting}
use Rattle.hexes.proofs.count.Given as goal

abbrev pub invariant-loop-rest : goal.invariant-loop-rest
invariant-loop-rest l = Counting l.text l.rest l.n

abbrev pub decreases-loop-rest : goal.decreases-loop-rest
decreases-loop-rest l = length l.rest
