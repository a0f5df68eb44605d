-- `headers::put` meets its contract, one outcome for each return. Assumes nothing.
use Rattle.std.proofs.Common.{arith}
use Rattle.headers.specs.HeadersLaws.{most-few, headed-length, put-none, put-large, put-short, put-laid}
use Rattle.headers.proofs.put.Goals as goal

pub returns-then-n-eq0 : goal.returns-then-n-eq0
returns-then-n-eq0 c =
    let a = c.args in
    put-none a.out.now a.c a.value.now c.if-n-eq0.true

pub returns-then-most-n : goal.returns-then-most-n
returns-then-most-n c =
    let a = c.args in
    put-large a.out.now a.c a.value.now c.if-n-eq0.false (omega (arith, c.most.ensures, c.if-most-n.true))

pub size-requires : goal.size-requires
size-requires c =
    omega (arith, c.most.ensures, c.if-most-n.false, most-few c.args.c)

pub returns-then-out-size : goal.returns-then-out-size
returns-then-out-size c =
    let a = c.args in
    put-short a.out.now a.c a.value.now c.if-n-eq0.false (omega (arith, c.most.ensures, c.if-most-n.false)) c.size.ensures c.if-out-size.true

pub lay-requires : goal.lay-requires
lay-requires c =
    let a = c.args in
    record { value_len_bound = omega (arith, c.most.ensures, c.if-most-n.false); value_in_bounds = omega (arith, c.size.ensures, c.if-out-size.false, headed-length a.c a.value.now) }

pub returns : goal.returns
returns c =
    let a = c.args in
    put-laid a.out.now a.c a.value.now c.if-n-eq0.false (omega (arith, c.most.ensures, c.if-most-n.false)) c.size.ensures c.lay.ensures
