-- `blocks::padding` meets its contract. Assumes nothing.
use Rattle.std.proofs.Common.{rules}
use Rattle.blocks.specs.PartsLaws.{padding-few, padding-many}
use Rattle.blocks.proofs.padding.Goals as goal

pub returns-then-rest-lt-UNIT : goal.returns-then-rest-lt-UNIT
returns-then-rest-lt-UNIT c = search (rules, padding-few)

pub returns-else-rest-lt-UNIT : goal.returns-else-rest-lt-UNIT
returns-else-rest-lt-UNIT c = search (rules, padding-many)
