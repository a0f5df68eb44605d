-- `findings::past_padding` meets its contract. Assumes nothing.
use Rattle.findings.specs.PlacesLaws.{past-first}
use Rattle.findings.proofs.past_padding.Goals as goal

pub returns-clause-value : goal.returns-clause-value
returns-clause-value c = rw (c.unwrap_or.ensures, c.first_other.ensures, c.min.ensures) (past-first c.args.rest.now)
