-- `findings::near16` meets its contract. Assumes nothing.
use Rattle.std.proofs.Common.{◌∙◌, arith}
use Rattle.findings.specs.PlacesLaws.{near-cut, near-there}
use Rattle.findings.proofs.near16.Goals as goal

pub returns-then-b-lt-LENGTH-clause-value : goal.returns-then-b-lt-LENGTH-clause-value
returns-then-b-lt-LENGTH-clause-value c = near-cut _ _ (omega arith)

pub returns-then-b-at-clause-value : goal.returns-then-b-at-clause-value
returns-then-b-at-clause-value c = near-cut _ _ (omega arith)

pub returns-clause-value : goal.returns-clause-value
returns-clause-value c = c.get16.ensures.value ∙ near-there _ _ (omega arith)
