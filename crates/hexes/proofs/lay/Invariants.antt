use Rattle.std.proofs.Common.{◌≡◌, length}
use Rattle.hexes.specs.Turns.{Laying}
use Rattle.hexes.proofs.lay.Given as goal

abbrev pub invariant-loop-rest : goal.invariant-loop-rest
invariant-loop-rest l = (length l.out ≡ length l.initial.out) × Laying l.text l.initial.out l.out l.rest l.n

abbrev pub decreases-loop-rest : goal.decreases-loop-rest
decreases-loop-rest l = length l.rest
