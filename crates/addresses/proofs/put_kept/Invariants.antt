use Rattle.std.proofs.Common.{◌≡◌}
use Rattle.addresses.proofs.PutKeptSteps.{Keeping}
use Rattle.addresses.proofs.put_kept.Given as goal

abbrev pub invariant-loop-address : goal.invariant-loop-address
invariant-loop-address l = (l.address-iterator.size ≡ l.w) × Keeping l.w l.s l.o l.initial.out l.address-iterator.rest.now l.next l.out
