-- `names::label_fits` meets its contract. Assumes nothing.
use Rattle.std.proofs.Common.{le-leb, arith}
use borrow.Author.Tests.{lt-leb}
use Rattle.names.proofs.label_fits.Goals as goal

pub returns-then-size-le63 : goal.returns-then-size-le63
returns-then-size-le63 c = simp (le-leb c.args.size 63 (omega arith))

pub returns-else-size-le63 : goal.returns-else-size-le63
returns-else-size-le63 c = simp (lt-leb c.args.size 63 (omega arith))
