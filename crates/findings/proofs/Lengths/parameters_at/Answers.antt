-- `findings::Lengths::parameters_at` meets its contract. Assumes nothing.
use Rattle.std.proofs.Common.{arith, rules}
use Rattle.findings.specs.PlacesLaws.{parameters-text, parameters-wire, parameters-padded, addresses-small}
use Rattle.findings.proofs.Lengths.parameters_at.Goals as goal

pub overflow_add-end : goal.overflow_add-end
overflow_add-end c =
    let s = c.args.self in omega (arith, s.room, c.addresses_at.ensures, addresses-small s.carrier s.name)

pub overflow_add-result-2 : goal.overflow_add-result-2
overflow_add-result-2 c =
    let s = c.args.self in omega (arith, s.room, c.addresses_at.ensures, addresses-small s.carrier s.name)

pub returns-then-as_text : goal.returns-then-as_text
returns-then-as_text c = search (rules, parameters-text)

pub returns-then-lifetime_width-eq0 : goal.returns-then-lifetime_width-eq0
returns-then-lifetime_width-eq0 c = search (rules, parameters-wire)

pub returns : goal.returns
returns c = search (rules, parameters-padded)
