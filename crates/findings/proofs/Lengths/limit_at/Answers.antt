-- `findings::Lengths::limit_at` meets its contract. Assumes nothing.
use Rattle.std.proofs.Common.{arith, rules}
use Rattle.findings.specs.PlacesLaws.{limit-addresses, limit-parameters, limit-small, addresses-small, parameters-small}
use Rattle.findings.proofs.Lengths.limit_at.Goals as goal

pub overflow_add-result : goal.overflow_add-result
overflow_add-result c =
    let s = c.args.self in
    omega (arith, s.room, c.addresses_at.ensures, addresses-small s.carrier s.name, c.address_width-most.ensures, limit-small s.carrier)

pub overflow_add-result-2 : goal.overflow_add-result-2
overflow_add-result-2 c =
    let s = c.args.self in omega (arith, s.room, c.parameters_at.ensures, parameters-small s.carrier s.name s.addresses)

pub returns-then-most-self : goal.returns-then-most-self
returns-then-most-self c = search (rules, limit-addresses)

pub returns : goal.returns
returns c = search (rules, limit-parameters)
