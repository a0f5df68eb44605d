use Rattle.std.proofs.Common.{◌≡◌, length, take}
use Rattle.chars.specs.Puts.{Puts}
use Rattle.lines.specs.HexLines.{lines_from}
use Rattle.lines.proofs.put_hex.Given as goal

abbrev pub invariant-loop-i : goal.invariant-loop-i
invariant-loop-i l = (length l.out ≡ length l.initial.out) × Puts 0 (lines_from 0 (length l.s) (take l.i l.s)) l.initial.out l.o l.out
