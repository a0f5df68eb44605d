-- `octets::same` meets its contract: `==` answers it. Assumes nothing.
use Rattle.std.proofs.Common.{rules}
use Rattle.octets.specs.SameLaws.{same_pointwise}
use Rattle.octets.proofs.same.Goals as goal

pub returns : goal.returns
returns c = search (rules, same_pointwise)
