-- `findings::Lengths::addresses_at` meets its contract. Assumes nothing.
use Rattle.std.proofs.Common.{arith, rules}
use Rattle.findings.specs.PlacesLaws.{addresses-text, addresses-wire, length-small, widths-small}
use Rattle.findings.proofs.Lengths.addresses_at.Goals as goal

pub overflow_add-result : goal.overflow_add-result
overflow_add-result c =
    let s = c.args.self in
    omega (arith, s.room, c.address_length_at.ensures, length-small s.carrier s.name, c.length_width.ensures, (widths-small s.carrier).1)

pub returns-then-as_text : goal.returns-then-as_text
returns-then-as_text c = search (rules, addresses-text)

pub returns : goal.returns
returns c = search (rules, addresses-wire)
