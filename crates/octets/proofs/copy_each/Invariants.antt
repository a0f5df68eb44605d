use Rattle.std.proofs.Common.{◌≡◌, take}
use Rattle.octets.specs.Over.{over}
use Rattle.octets.proofs.copy_each.Given as goal

abbrev pub invariant-loop-j : goal.invariant-loop-j
invariant-loop-j l = l.out ≡ over l.at (take l.j l.src) l.initial.out
