use Rattle.std.proofs.Common.{ℕ}
use Rattle.taking.specs.Turns.{Begins}
use Rattle.writing.specs.Laying.{records_of, Laying}
use Rattle.writing.proofs.put_stream.Given as goal

abbrev pub invariant-loop-record : goal.invariant-loop-record
invariant-loop-record l = (next : ℕ) × Begins l.c l.s next l.record-iterator × Laying l.c l.s (records_of l.s) l.from l.initial.out next l.at l.out
