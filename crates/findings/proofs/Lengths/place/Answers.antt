-- `findings::Lengths::place` meets its contract. Assumes nothing.
use Rattle.std.proofs.Common.{arith}
use Rattle.findings.specs.PlacesLaws.{parameters-small, place-first, place-parameters}
use Rattle.findings.specs.Troubles.{field_place}
use Rattle.findings.proofs.Lengths.place.Goals as goal

pub overflow_add-result-in-Parameters : goal.overflow_add-result-in-Parameters
overflow_add-result-in-Parameters c =
    let s = c.args.self in omega (arith, c.requires.1, c.parameters_at.ensures, parameters-small s.carrier s.name s.addresses)

pub returns-in-Field : goal.returns-in-Field
returns-in-Field c = place-first _ _ _ _ _ _ c.in-Field.is

pub returns-in-Name : goal.returns-in-Name
unfolding field_place
returns-in-Name c = rw (c.in-Name.is, c.name_at.ensures)

pub returns-in-Addresses : goal.returns-in-Addresses
unfolding field_place
returns-in-Addresses c = rw (c.in-Addresses.is, c.address_length_at.ensures)

pub returns-in-Limit : goal.returns-in-Limit
unfolding field_place
returns-in-Limit c = rw (c.in-Limit.is, c.limit_at.ensures)

pub returns-in-Dropped : goal.returns-in-Dropped
unfolding field_place
returns-in-Dropped c = rw (c.in-Dropped.is, c.addresses_at.ensures)

pub returns-in-Parameters : goal.returns-in-Parameters
returns-in-Parameters c = place-parameters _ _ _ _ _ _ c.in-Parameters.is c.parameters_at.ensures
