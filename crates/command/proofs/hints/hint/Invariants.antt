use Rattle.std.proofs.Common.{◌≡◌, ◌-◌}
use Rattle.carriers.specs.Carriers.{number_of}
use Rattle.command.specs.Hints.{hint_from, hint_of}
use Rattle.command.proofs.hints.hint.Given as goal

abbrev pub invariant-loop-k : goal.invariant-loop-k
invariant-loop-k l = hint_from (6 - l.k) l.k (number_of l.fn.carrier) l.area ≡ hint_of (number_of l.fn.carrier) l.area
