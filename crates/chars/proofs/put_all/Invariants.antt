use Rattle.std.proofs.Common.{take}
use Rattle.chars.specs.Puts.{Puts}
use Rattle.chars.proofs.put_all.Given as goal

abbrev pub invariant-loop-i : goal.invariant-loop-i
invariant-loop-i l = Puts l.at (take l.i l.s) l.initial.out l.o l.out
