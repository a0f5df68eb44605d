use Rattle.std.proofs.Common.{◌-◌, length}
use Rattle.decoding.specs.DecodingLaws.{Lining}
use Rattle.decoding.proofs.read_lines.Given as goal

abbrev pub invariant-loop-i : goal.invariant-loop-i
invariant-loop-i l = Lining l.c l.text l.initial.out l.n l.i l.out

abbrev pub decreases-loop-i : goal.decreases-loop-i
decreases-loop-i l = length l.text - l.i
