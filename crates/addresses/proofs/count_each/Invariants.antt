use Rattle.std.proofs.Common.{◌≡◌, ◌+◌, ◌≤◌, length, drop}
use Rattle.addresses.specs.Addresses.{kept_of}
use Rattle.addresses.proofs.count_each.Given as goal

abbrev pub invariant-loop-a : goal.invariant-loop-a
invariant-loop-a g l = (l.n ≤ l.a-index) × (l.n + length (kept_of g.row.W (drop l.a-index l.list)) ≡ length (kept_of g.row.W l.list))
