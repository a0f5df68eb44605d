use Rattle.std.proofs.Common.{ℕ}
use Rattle.taking.specs.Turns.{Begins}
use Rattle.findings.specs.Sheet.{Seeking}
use Rattle.findings.proofs.sheet.seek.Given as goal

abbrev pub invariant-loop-record : goal.invariant-loop-record
invariant-loop-record l = (at : ℕ) × Begins l.fn.c l.s at l.record-iterator × Seeking l.fn.c l.s l.place at
