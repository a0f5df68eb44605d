-- `headers::most` meets its contract. Assumes nothing.
use Rattle.std.proofs.Common.{arith}
use Rattle.headers.specs.HeadersLaws.{header-few, most-eights, most-octets}
use Rattle.headers.proofs.most.Goals as goal

pub overflow_sub-result : goal.overflow_sub-result
overflow_sub-result c = omega (arith, c.header_size-header.ensures, header-few c.args.c)

pub returns-then-f : goal.returns-then-f
returns-then-f c =
    most-eights c.args.c c.facts-f.ensures c.header_size-header.ensures c.if-f.true

pub returns : goal.returns
returns c = most-octets c.args.c c.facts-f.ensures c.if-f.false
