use Rattle.std.proofs.Common.{◌≡◌}
use Rattle.addresses.specs.Addresses.{list_of, has_of}
use Rattle.addresses.proofs.has.Given as goal

abbrev pub invariant-loop-a : goal.invariant-loop-a
invariant-loop-a l = (l.a-iterator.size ≡ l.w) × (has_of l.w l.wanted (list_of l.w l.s) ≡ has_of l.w l.wanted (list_of l.w l.a-iterator.rest.now))
