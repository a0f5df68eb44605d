use Rattle.std.proofs.Common.{false, [], drop}
use Rattle.values.specs.Values.{escaped_of}
use Rattle.values.specs.ListLaws.{Listed}
use Rattle.values.proofs.put_value.Given as goal

abbrev pub invariant-loop-b : goal.invariant-loop-b
invariant-loop-b l = Listed false (escaped_of l.json) l.s (drop l.b-index l.s) [] l.at l.initial.out l.o l.out
