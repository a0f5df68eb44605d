use Rattle.std.proofs.Common.{◌-◌, ◌≤◌, length}
use Rattle.telling.specs.DiscardedLaws.{Counting}
use Rattle.telling.proofs.Teller.blocks.Given as goal

abbrev pub invariant-loop-start : goal.invariant-loop-start
invariant-loop-start g l = (l.k ≤ l.at) × Counting l.self.carrier l.self.area.now l.at l.n

abbrev pub decreases-loop-start : goal.decreases-loop-start
decreases-loop-start g l = length l.self.area.now - l.at
