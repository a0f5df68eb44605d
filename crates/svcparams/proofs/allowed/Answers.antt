-- `svcparams::allowed` meets its contract. Assumes nothing.
use Rattle.std.proofs.Common.{rules}
use Rattle.svcparams.proofs.ValueLaws.{value-mandatory}
use Rattle.svcparams.proofs.allowed.Goals as goal

pub returns-then-key-eq-MANDATORY : goal.returns-then-key-eq-MANDATORY
returns-then-key-eq-MANDATORY c = search (rules, value-mandatory)

pub returns : goal.returns
returns c = c.plain.ensures _ c.requires.beside_value
