-- `headers::size` meets its contract. Assumes nothing.
use Rattle.std.proofs.Common.{arith, ◌∙◌}
use Rattle.headers.specs.HeadersLaws.{header-few, size-cut, size-option}
use Rattle.headers.proofs.size.Goals as goal

pub overflow_add-whole-2 : goal.overflow_add-whole-2
overflow_add-whole-2 c =
    omega (arith, c.header_size.ensures, header-few c.args.c)

pub returns-then-f : goal.returns-then-f
returns-then-f c =
    let a = c.args in
    c.cut_size.ensures ∙ size-cut a.c c.facts-f.ensures a.n c.if-f.true

pub returns : goal.returns
returns c =
    let a = c.args in
    size-option a.c c.facts-f.ensures a.n c.header_size.ensures c.gap.ensures.0 c.if-f.false
