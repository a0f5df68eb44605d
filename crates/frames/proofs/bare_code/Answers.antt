-- `frames::bare_code` meets its contract. Assumes nothing.
use Rattle.frames.proofs.bare_code.Goals as goal

pub returns-then-reserved : goal.returns-then-reserved
returns-then-reserved c = rw c.if-reserved.true

pub returns-else-reserved : goal.returns-else-reserved
returns-else-reserved c = rw c.if-reserved.false
