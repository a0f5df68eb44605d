-- `decoding::read_lines` meets its contract. The loop's invariant: the lines from the i-th character on are left. Assumes nothing.
use Rattle.std.proofs.Common.{ap, arith}
use Rattle.inputs.specs.Read.{read_in}
use Rattle.decoding.specs.DecodingLaws.{lining-start, lining-next, lining-room, lining-unread, lining-done}
use Rattle.decoding.proofs.read_lines.Goals as goal

pub loop-i-init : goal.loop-i-init
loop-i-init c = let a = c.args in lining-start a.c a.text.now a.out.now

pub place-end-requires : goal.place-end-requires
place-end-requires c = omega (arith, c.loop-i-test.true)

pub slice_bounds-add_line-count : goal.slice_bounds-add_line-count
slice_bounds-add_line-count c = c.place-end.ensures.1

pub add_line-requires : goal.add_line-requires
add_line-requires c = c.loop-i.invariant.few

pub back-requires : goal.back-requires
back-requires c =
    let w = c.loop-i.invariant in
    omega (arith, lining-room w c.loop-i-test.true c.place-end.ensures c.add_line.ensures c.in-Err.unread (ap read_in c.in-Err.is), c.well_formed)

pub returns-in-Err : goal.returns-in-Err
returns-in-Err c =
    let w = c.loop-i.invariant in
    lining-unread w c.loop-i-test.true c.place-end.ensures c.add_line.ensures c.in-Err.unread (ap read_in c.in-Err.is) c.back.ensures

pub loop-i-preserved : goal.loop-i-preserved
loop-i-preserved c =
    let w = c.loop-i.invariant in
    lining-next w c.loop-i-test.true c.place-end.ensures c.add_line.ensures (ap read_in c.in-Ok.is) (omega arith)

pub returns : goal.returns
returns c = lining-done c.loop-i.invariant c.loop-i-test.false
