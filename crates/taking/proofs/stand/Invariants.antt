use Rattle.std.proofs.Common.{◌≡◌, ◌≤◌, ◌-◌, length, drop}
use Rattle.sheets.specs.Sheets.{front_size}
use Rattle.taking.specs.Taking.{records_from}
use Rattle.taking.specs.Took.{some}
use Rattle.taking.proofs.stand.Given as goal

abbrev pub invariant-loop : goal.invariant-loop
invariant-loop l =
    (l.at ≤ length l.s) × (some (records_from l.c (l.count - l.counter) l.least (drop l.at l.s)) ≡ some (records_from l.c l.count 0 (drop front_size l.s)))
