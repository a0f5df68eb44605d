-- `addresses::kept_count` meets its contract: a width that is not 4 is 16. Assumes nothing.
use Rattle.std.proofs.Common.{arith, ◌≡◌}
use Rattle.addresses.proofs.kept_count.Goals as goal

pub returns : goal.returns
returns c =
    let wide = c.requires.width in
    let long : c.args.w ≡ 16 = omega (arith, wide.is, wide.one, c.if-w-eq4.false) in
    rw long c.count_fours.ensures
