use Rattle.std.proofs.Common.{true, ℕ, length}
use Rattle.octets.specs.Numbers.{words}
use Rattle.values.specs.Values.{before_of, quoted, key_of}
use Rattle.values.specs.ListLaws.{Listed}
use Rattle.values.proofs.put_key_items.Given as goal

abbrev pub invariant-loop-left : goal.invariant-loop-left
invariant-loop-left l = Listed true (λ (k : ℕ). quoted l.json (key_of k)) (words l.s) (words l.left) (before_of true l.first) l.at l.initial.out l.o l.out

abbrev pub decreases-loop-left : goal.decreases-loop-left
decreases-loop-left l = length l.left
