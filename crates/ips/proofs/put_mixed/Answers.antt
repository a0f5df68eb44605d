-- `ips::put_mixed` meets its contract: the prefix, and the IPv4 address. Assumes nothing.
use Rattle.std.proofs.Common.{arith, ◌≡◌, length, drop, length-drop}
use Rattle.octets.specs.ListsLaws.{take_rest}
use Rattle.ips.specs.Writes.{mixed-length, wrote-mixed}
use Rattle.ips.proofs.put_mixed.Goals as goal

pub copy-next-requires : goal.copy-next-requires
copy-next-requires c = omega (arith, mixed-length c.args.a.now)

pub put4-requires : goal.put4-requires
put4-requires c =
    let four : length (drop 12 c.args.a.now) ≡ 4 = omega (arith, length-drop 12 c.args.a.now) in
    let size = mixed-length c.args.a.now in
    rw (take_rest 12 c.args.a.now) (record { a_len = four; a_in_bounds = omega arith })

pub returns : goal.returns
returns c =
    let a = c.args.a.now in
    wrote-mixed a c.copy-next.ensures (rw (take_rest 12 a) at c.put4.ensures)
