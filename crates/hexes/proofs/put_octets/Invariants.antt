use Rattle.std.proofs.Common.{◌≡◌, length, take}
use Rattle.chars.specs.Puts.{Puts}
use Rattle.hexes.specs.Hexes.{hex_of}
use Rattle.hexes.proofs.put_octets.Given as goal

abbrev pub invariant-loop-b : goal.invariant-loop-b
invariant-loop-b l = (length l.out ≡ length l.initial.out) × Puts l.at (hex_of (take l.b-index l.s)) l.initial.out l.o l.out
