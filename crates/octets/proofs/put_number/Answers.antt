-- `octets::put_number` meets its contract: one octet, or two. Assumes nothing.
use Rattle.std.proofs.Common.{arith, ◌≡◌, ℕ, ◌^◌, ◌<◌}
use Rattle.octets.proofs.put_number.Goals as goal

pub overflow_cast-v : goal.overflow_cast-v
overflow_cast-v c =
    let h : c.args.v < 256 ^ 1 = rw c.if-width-eq1.true at c.requires.width_nonzero.2 in
    omega arith

pub returns-then-width-eq1 : goal.returns-then-width-eq1
returns-then-width-eq1 c = rw c.if-width-eq1.true c.put8.ensures

pub put16-requires : goal.put16-requires
put16-requires c =
    let two : ◌≡◌ {A = ℕ} c.args.width 2 = omega arith in
    let h : c.args.v < 256 ^ 2 = rw two at c.requires.width_nonzero.2 in
    (omega (arith, two), omega arith)

pub returns : goal.returns
returns c =
    let two : ◌≡◌ {A = ℕ} c.args.width 2 = omega arith in
    rw two c.put16.ensures
