-- `octets::copy_ends` meets its contract: the first octets, and then the last, which reach back to them. Assumes nothing.
use Rattle.std.proofs.Common.{arith, refl, ◌-◌, length}
use Rattle.octets.specs.OverLaws.{reaching-back}
use Rattle.octets.specs.ListsLaws.{take_rest}
use Rattle.octets.proofs.copy_ends.Goals as goal

pub returns : goal.returns
returns g c =
    let a = c.args in
    let last = length a.src.now - g.row.N in
    reaching-back g.row.N last a.src.now (omega arith) (omega arith) refl c.copy_held.ensures (rw (take_rest last a.src.now) at c.copy_held-2.ensures)
