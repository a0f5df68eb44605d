-- `addresses::unusable16` meets its contract: an address that does not begin with 0 is no loopback. Assumes nothing.
use Rattle.std.proofs.Common.{rules, arith, sym, length-take-le}
use Rattle.addresses.specs.AddressesLaws.{unusable16-first, unusable16-one, unusable16-other}
use Rattle.addresses.proofs.unusable16.Goals as goal

pub returns-then-first-ne0 : goal.returns-then-first-ne0
returns-then-first-ne0 c = search (rules, unusable16-first)

pub slice_bounds-zeros-end : goal.slice_bounds-zeros-end
slice_bounds-zeros-end c = sym (length-take-le 15 c.args.a.now (omega arith))

pub returns-then-a-eq1 : goal.returns-then-a-eq1
returns-then-a-eq1 c = search (rules, unusable16-one)

pub returns : goal.returns
returns c = search (rules, unusable16-other)
