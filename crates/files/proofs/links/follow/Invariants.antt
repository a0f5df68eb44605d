use Rattle.std.proofs.Common.{length, ◌≤◌}
use Rattle.files.proofs.links.follow.Given as goal

abbrev pub invariant-loop : goal.invariant-loop
invariant-loop g l = l.m ≤ length l.path
