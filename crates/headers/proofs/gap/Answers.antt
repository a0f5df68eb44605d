-- `headers::gap` meets its contract. Assumes nothing.
use Rattle.std.proofs.Common.{arith}
use Rattle.headers.specs.HeadersLaws.{header-few, gap-eights, gap-octets}
use Rattle.headers.proofs.gap.Goals as goal

pub overflow_add-whole : goal.overflow_add-whole
overflow_add-whole c = omega (arith, c.header_size.ensures, header-few c.args.c)

pub returns-then-f : goal.returns-then-f
returns-then-f c =
    let a = c.args in
    gap-eights a.c c.facts-f.ensures a.n c.header_size.ensures c.if-f.true

pub returns : goal.returns
returns c =
    let a = c.args in
    gap-octets a.c c.facts-f.ensures a.n c.if-f.false
