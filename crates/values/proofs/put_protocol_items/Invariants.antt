use Rattle.std.proofs.Common.{true, List, ℕ, length}
use Rattle.values.specs.Values.{before_of, quoted, value_of, strings_from}
use Rattle.values.specs.ListLaws.{Listed}
use Rattle.values.proofs.put_protocol_items.Given as goal

abbrev pub invariant-loop-left : goal.invariant-loop-left
invariant-loop-left l = Listed true (λ (id : List ℕ). quoted l.json (value_of l.json id)) (strings_from 0 l.s) (strings_from 0 l.left) (before_of true l.first) l.at l.initial.out l.o l.out

abbrev pub decreases-loop-left : goal.decreases-loop-left
decreases-loop-left l = length l.left
