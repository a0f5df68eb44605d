use Rattle.std.proofs.Common.{ℕ}
use Rattle.taking.specs.Turns.{Begins}
use Rattle.vetting.specs.Weighing.{records_of, Weighing}
use Rattle.vetting.proofs.weigh.Given as goal

abbrev pub invariant-loop-record : goal.invariant-loop-record
invariant-loop-record l = (at : ℕ) × Begins l.c l.s at l.record-iterator × Weighing l.c l.s (records_of l.s) at l.large l.size
