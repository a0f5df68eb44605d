-- `records::put_tail` meets its contract: the addresses that stay, their count before them, and the parameters. Assumes nothing.
use Rattle.std.proofs.Common.{refl, append_assoc, arith}
use Rattle.octets.specs.OverLaws.{then, before}
use Rattle.addresses.specs.AddressesLaws.{wide-some}
use Rattle.records.specs.RecordsLaws.{staying-count}
use Rattle.records.proofs.put_tail.Goals as goal

pub overflow_cast-count : goal.overflow_cast-count
overflow_cast-count c =
    let e = staying-count _ _ _ _ (wide-some c.requires.width) c.put_addresses-after_addresses.ensures.next in
    omega (arith, e)

pub returns : goal.returns
returns c =
    let e = staying-count _ _ _ _ (wide-some c.requires.width) c.put_addresses-after_addresses.ensures.next in
    rw (e, append_assoc) at (then (before refl c.put_addresses-after_addresses.ensures c.put8.ensures) (then c.put16-after_length.ensures c.copy.ensures))
