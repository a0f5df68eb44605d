-- `findings::laid_place` meets its contract. Assumes nothing.
use Rattle.std.proofs.Common.{rules}
use Rattle.findings.specs.PlacesLaws.{laid-other, laid-past, laid-padding}
use Rattle.findings.proofs.laid_place.Goals as goal

pub returns-then-ne : goal.returns-then-ne
returns-then-ne c = search (rules, laid-other)

pub returns-then-body-from : goal.returns-then-body-from
returns-then-body-from c = search (rules, laid-past)

pub returns : goal.returns
returns c = search (rules, laid-padding)
