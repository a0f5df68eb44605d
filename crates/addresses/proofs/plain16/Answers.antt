-- `addresses::plain16` meets its contract: its tests are the definition's. Assumes nothing.
use Rattle.addresses.specs.CountLaws.{plain16-zero, plain16-other}
use Rattle.addresses.proofs.plain16.Goals as goal

pub returns-then-first-ne0 : goal.returns-then-first-ne0
returns-then-first-ne0 c = plain16-other c.args.first c.if-first-ne0.true

pub returns-else-first-ne0 : goal.returns-else-first-ne0
returns-else-first-ne0 c = plain16-zero c.args.first c.if-first-ne0.false
