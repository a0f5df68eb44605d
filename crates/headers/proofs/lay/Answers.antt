-- `headers::lay` meets its contract: by whether the carrier's options are joined. Assumes nothing.
use Rattle.std.proofs.Common.{ap, arith, length}
use Rattle.headers.specs.HeadersLaws.{most-few, is-joined, headed-cut, headed-option}
use Rattle.headers.proofs.lay.Goals as goal

pub put_cut-requires : goal.put_cut-requires
put_cut-requires c =
    let a = c.args in
    let e = ap length (headed-cut a.c c.facts-f.ensures a.value.now c.if-f.true) in
    (omega (arith, c.requires.value_len_bound, most-few a.c), omega (arith, c.requires.value_in_bounds, e))

pub returns-then-f : goal.returns-then-f
returns-then-f c =
    let a = c.args in
    rw (headed-cut a.c c.facts-f.ensures a.value.now c.if-f.true) c.put_cut.ensures

pub put_option-requires : goal.put_option-requires
put_option-requires c =
    let a = c.args in
    let e = ap length (headed-option a.c c.facts-f.ensures a.value.now c.if-f.false) in
    record { c_value = (is-joined a.c c.facts-f.ensures c.if-f.false, c.requires.value_len_bound); value_in_bounds = omega (arith, c.requires.value_in_bounds, e) }

pub returns : goal.returns
returns c =
    let a = c.args in
    rw (headed-option a.c c.facts-f.ensures a.value.now c.if-f.false) c.put_option.ensures
