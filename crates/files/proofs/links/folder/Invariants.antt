use Rattle.std.proofs.Common.{length, ◌≡◌}
use Rattle.files.specs.Paths.{slash_in}
use Rattle.files.proofs.links.folder.Given as goal

abbrev pub invariant-loop-i : goal.invariant-loop-i
invariant-loop-i l = slash_in l.i l.path ≡ slash_in (length l.path) l.path
