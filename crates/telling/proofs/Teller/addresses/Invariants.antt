use Rattle.std.proofs.Common.{◌≤◌, length}
use Rattle.telling.proofs.Teller.addresses.Given as goal

abbrev pub invariant-loop-a : goal.invariant-loop-a
invariant-loop-a g l = length l.rest ≤ length l.s

abbrev pub decreases-loop-a : goal.decreases-loop-a
decreases-loop-a g l = length l.rest
