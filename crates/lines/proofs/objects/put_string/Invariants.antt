use Rattle.std.proofs.Common.{◌≡◌, false, [], length, drop}
use Rattle.lines.specs.Objects.{letter_of}
use Rattle.values.specs.ListLaws.{Listed}
use Rattle.lines.proofs.objects.put_string.Given as goal

abbrev pub invariant-loop-b : goal.invariant-loop-b
invariant-loop-b l = (length l.out ≡ length l.initial.out) × Listed false letter_of l.s (drop l.b-index l.s) [] l.at l.initial.out l.o l.out
