-- `svcparams::walk::held_in` meets its contract. Assumes nothing.
use Rattle.svcparams.proofs.MergeTurns.{held-room, held_none, held-key}
use Rattle.svcparams.proofs.walk.held_in.Goals as goal

pub returns-in_default : goal.returns-in_default
returns-in_default c = held_none _ (rw c.in_default.is at c.requires.0)

pub get16-requires : goal.get16-requires
get16-requires c = held-room _ (rw c.in-Some.is at c.requires.0) (rw c.in-Some.is at c.requires.1)

pub returns : goal.returns
returns c = held-key _ (rw c.in-Some.is at c.requires.0) (rw c.in-Some.is at c.requires.1) c.get16.ensures.value
