-- `octets::put32` meets its contract: its halves, one after the other. Assumes nothing.
use Rattle.octets.specs.OverLaws.{then}
use Rattle.octets.specs.NumbersLaws.{halves}
use Rattle.octets.proofs.put32.Goals as goal

pub returns : goal.returns
returns c =
    rw halves (then c.put16-next.ensures c.put16.ensures)
