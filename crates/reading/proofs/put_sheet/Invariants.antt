use Rattle.reading.specs.Walks.{Written}
use Rattle.reading.proofs.put_sheet.Given as goal

abbrev pub invariant-loop-slot : goal.invariant-loop-slot
invariant-loop-slot l = Written l.c l.source l.slot-items l.initial.o l.initial.out l.slot-index l.o l.out
