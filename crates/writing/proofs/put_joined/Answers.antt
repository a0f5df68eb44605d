-- `writing::put_joined` meets its contract: joined behind the place of the headers, and cut there. Assumes nothing.
use Rattle.std.proofs.Common.{arith}
use Rattle.writing.specs.LayingLaws.{joined-place, joined-cut}
use Rattle.writing.proofs.put_joined.Goals as goal

pub overflow_sub-from : goal.overflow_sub-from
overflow_sub-from c = let p = c.requires in (joined-place p.c_value p.measured).0

pub put_stream-requires : goal.put_stream-requires
put_stream-requires c = let p = c.requires in record { ready = p.ready; s_in_bounds = (joined-place p.c_value p.measured).2 }

pub cut_within-requires : goal.cut_within-requires
cut_within-requires c =
    let p = c.requires in
    let j = joined-place p.c_value p.measured in
    record { n_value = j.1; n_in_bounds = omega (arith, j, p.measured.sizes, c.put_stream.auto) }

pub returns : goal.returns
returns c =
    joined-cut c.requires.c_value c.requires.measured c.put_stream.ensures c.cut_within.ensures
