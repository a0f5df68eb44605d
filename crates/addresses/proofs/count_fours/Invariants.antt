use Rattle.std.proofs.Common.{◌≡◌, ℕ, ◌*◌, length}
use Rattle.addresses.specs.CountLaws.{Counting}
use Rattle.addresses.proofs.count_fours.Given as goal

abbrev pub invariant-loop-four : goal.invariant-loop-four
invariant-loop-four l =
    (l.four-iterator.size ≡ 64) × ((k : ℕ) × (length l.four-iterator.rest.now ≡ k * 64)) × Counting 16 l.initial.four-iterator.rest.now l.n l.four-iterator.rest.now
