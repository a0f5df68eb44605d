use Rattle.std.proofs.Common.{◌≡◌, ◌-◌, length, None}
use Rattle.reading.specs.Tally.{first_in, tally_of}
use Rattle.reading.specs.Walks.{Tallying}
use Rattle.reading.proofs.read_blocks.Given as goal

abbrev pub invariant-loop-start : goal.invariant-loop-start
invariant-loop-start l =
    Tallying l.c l.area l.at (tally_of l.held l.found l.discarded (first_in l.first)) × (l.discarded ≡ 0 → l.first ≡ None) × (l.out ≡ l.initial.out)

abbrev pub decreases-loop-start : goal.decreases-loop-start
decreases-loop-start l = length l.area - l.at
