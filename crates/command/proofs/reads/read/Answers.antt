-- `command::reads::read` meets its contract: without a carrier an area is refused. Assumes nothing.
use Rattle.command.specs.NumbersLaws.{read-carrierless}
use Rattle.command.proofs.reads.read.Goals as goal

pub returns-in-None : goal.returns-in-None
returns-in-None g c = rw (c.in-None.is, c.refused.ensures) (read-carrierless c.args.a.strict c.args.area.now)
