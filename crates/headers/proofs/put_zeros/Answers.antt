-- `headers::put_zeros` meets its contract: a part of some zeros, copied. Assumes nothing.
use Rattle.std.proofs.Common.{arith, length-take}
use Rattle.headers.specs.HeadersLaws.{take-zeros}
use Rattle.headers.proofs.put_zeros.Goals as goal

pub slice_bounds-copy-end : goal.slice_bounds-copy-end
slice_bounds-copy-end c = simp length-take (omega arith)

pub copy-requires : goal.copy-requires
copy-requires c = simp length-take (omega arith)

pub returns : goal.returns
returns c =
    rw (← (take-zeros c.args.n 8 (omega arith))) c.copy.ensures
