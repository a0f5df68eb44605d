use Rattle.std.proofs.Common.{◌≡◌, ◌-◌, length, drop}
use Rattle.words.specs.Encoded.{number_at}
use Rattle.words.proofs.number_of.Given as goal

abbrev pub invariant-loop-entry : goal.invariant-loop-entry
invariant-loop-entry l = number_at l.word (drop l.entry l.table) ≡ number_at l.word l.table

abbrev pub decreases-loop-entry : goal.decreases-loop-entry
decreases-loop-entry l = length l.table - l.entry
