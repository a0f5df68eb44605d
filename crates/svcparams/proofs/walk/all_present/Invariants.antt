use Rattle.std.proofs.Common.{◌-◌, ◌≡◌, false, length}
use Rattle.svcparams.specs.Entries.{keys_in}
use Rattle.svcparams.proofs.MergeTurns.{Merging}
use Rattle.svcparams.proofs.walk.all_present.Given as goal

abbrev pub invariant-params : goal.invariant-params
invariant-params l = Merging l.m l.p l.i l.at l.steps × (l.present ≡ false)

abbrev pub decreases-params : goal.decreases-params
decreases-params l = length (keys_in l.p) - l.steps

abbrev pub invariant-listed : goal.invariant-listed
invariant-listed l = Merging l.m l.p l.i l.at l.steps × (l.present ≡ false)

abbrev pub decreases-listed : goal.decreases-listed
decreases-listed l = length l.m - l.i
