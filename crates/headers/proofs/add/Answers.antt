-- `headers::add` meets its contract. Assumes nothing.
use Rattle.std.proofs.Common.{arith}
use Rattle.headers.specs.HeadersLaws.{add-room}
use Rattle.headers.proofs.add.Goals as goal

pub overflow_add-result : goal.overflow_add-result
overflow_add-result c =
    let a = c.args in
    omega (arith, add-room a.out.now a.n a.c a.value.now c.requires c.put.ensures c.in_ok-size.was)
