-- `boundaries::write_case` meets its contract: the octets of the case stand from after its sizes to its end. Assumes nothing.
use Rattle.std.proofs.Common.{arith, sym, ◌∙◌, length-take}
use Rattle.boundaries.proofs.write_case.Goals as goal

pub get32-requires : goal.get32-requires
get32-requires g c =
    let e = c.in_ok-end.ensures.past in omega arith

pub slice_bounds-run_write-count : goal.slice_bounds-run_write-count
slice_bounds-run_write-count g c =
    let e = c.in_ok-end.ensures.past in omega arith

pub slice_bounds-run_write-start : goal.slice_bounds-run_write-start
slice_bounds-run_write-start g c =
    let e = c.in_ok-end.ensures.past in omega arith

pub slice_bounds-run_write-end : goal.slice_bounds-run_write-end
slice_bounds-run_write-end g c =
    let e = c.in_ok-end.ensures.past in omega arith

pub slice_bounds-run_write-end-3 : goal.slice_bounds-run_write-end-3
slice_bounds-run_write-end-3 g c = simp length-take (omega arith)

pub returns-in_err-end : goal.returns-in_err-end
returns-in_err-end g c =
    record {
      value = c.from_residual.ensures ∙ c.in_err-end.ensures.value;
      past = rw c.from_residual.ensures tt;
    }

pub returns : goal.returns
returns g c =
    let e = c.in_ok-end.ensures.past in
    record { value = c.in_ok-end.ensures.value; past = (omega arith, omega arith) }
