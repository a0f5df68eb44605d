-- `telling::Teller::gathered` meets its contract: without an own option there is no block. Assumes nothing.
use Rattle.std.proofs.Common.{rules}
use Rattle.telling.specs.DiscardedLaws.{found_some}
use Rattle.telling.proofs.Teller.gathered.Goals as goal

pub within-requires : goal.within-requires
within-requires g c =
    (c.requires, search (rules, found_some))
