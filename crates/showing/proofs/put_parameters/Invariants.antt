use Rattle.std.proofs.Common.{◌≡◌, length}
use Rattle.svcparams.specs.Entries.{entries}
use Rattle.values.specs.Values.{before_of}
use Rattle.values.specs.ListLaws.{Listed}
use Rattle.showing.specs.Showing.{parameter_of}
use Rattle.showing.proofs.put_parameters.Given as goal

abbrev pub invariant-loop-n : goal.invariant-loop-n
invariant-loop-n l =
    (length l.out ≡ length l.initial.out)
    × Listed l.json (parameter_of l.json) (entries l.p) (entries l.rest) (before_of l.json l.first) l.at l.initial.out l.o l.out

abbrev pub decreases-loop-n : goal.decreases-loop-n
decreases-loop-n l = length l.rest
