use Rattle.std.proofs.Common.{◌-◌, ◌≤◌, length}
use Rattle.telling.proofs.Teller.instances.Given as goal

abbrev pub invariant-loop-at : goal.invariant-loop-at
invariant-loop-at g l = l.at ≤ length l.joined

abbrev pub decreases-loop-at : goal.decreases-loop-at
decreases-loop-at g l = length l.joined - l.at
