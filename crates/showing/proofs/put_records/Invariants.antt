use Rattle.std.proofs.Common.{◌≡◌, ℕ, List, length}
use Rattle.blocks.specs.Block.{Fields}
use Rattle.sheets.specs.Sheets.{front_size}
use Rattle.taking.specs.Standing.{Standing}
use Rattle.taking.specs.Turns.{Begins}
use Rattle.showing.specs.SheetLaws.{Lined}
use Rattle.showing.proofs.put_records.Given as goal

abbrev pub invariant-loop-record : goal.invariant-loop-record
invariant-loop-record l =
    (i : ℕ)
    × Begins l.c l.s i l.record-iterator
    × (length l.out ≡ length l.initial.out)
    × ((rs : List Fields) → Standing l.c l.s front_size rs → Lined l.json l.c l.s i l.first rs l.at l.initial.out l.o l.out)
