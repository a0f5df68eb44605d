use Rattle.std.proofs.Common.{◌≡◌, length}
use Rattle.addresses.specs.Addresses.{list_of}
use Rattle.carriers.specs.Carriers.{address_width}
use Rattle.values.specs.Values.{before_of}
use Rattle.values.specs.ListLaws.{Listed}
use Rattle.showing.specs.Showing.{address_item}
use Rattle.showing.proofs.put_addresses.Given as goal

abbrev pub invariant-loop-address : goal.invariant-loop-address
invariant-loop-address l =
    let w = address_width l.fn.c in
    (l.address-iterator.size ≡ w)
    × (length l.out ≡ length l.initial.out)
    × Listed l.json (address_item l.json) (list_of w l.list) (list_of w l.address-iterator.rest.now) (before_of l.json l.first) l.at l.initial.out l.o l.out
