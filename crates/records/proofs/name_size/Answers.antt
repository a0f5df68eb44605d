-- `records::name_size` meets its contract: as the carrier has a name. Assumes nothing.
use Rattle.records.proofs.name_size.Goals as goal

pub returns : goal.returns
returns c = rw c.as_text.ensures at c.wire_size.ensures
