-- `telling::Teller::within` meets its contract: what `join` wrote at the front of the buffer is no longer than the area. Assumes nothing.
use Rattle.telling.specs.DiscardedLaws.{counted-whole}
use Rattle.telling.proofs.Teller.within.Goals as goal

pub returns-in-Ok : goal.returns-in-Ok
returns-in-Ok g c = counted-whole _ _ _ c.in-Ok.ensures.joins _ c.requires.1 c.joined.ensures
