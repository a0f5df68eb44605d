-- `boundaries::read_case` meets its contract: the octets of the case stand from after its sizes to its end. Assumes nothing.
use Rattle.std.proofs.Common.{eq-eqb, ne_eqb, arith, sym, ◌∙◌, length-take}
use Rattle.boundaries.proofs.read_case.Goals as goal

pub get32-requires : goal.get32-requires
get32-requires g c =
    let e = c.in_ok-end.ensures.past in omega arith

pub slice_bounds-run_read-count : goal.slice_bounds-run_read-count
slice_bounds-run_read-count g c =
    let e = c.in_ok-end.ensures.past in omega arith

pub slice_bounds-run_read-start : goal.slice_bounds-run_read-start
slice_bounds-run_read-start g c =
    let e = c.in_ok-end.ensures.past in omega arith

pub slice_bounds-run_read-end : goal.slice_bounds-run_read-end
slice_bounds-run_read-end g c =
    let e = c.in_ok-end.ensures.past in omega arith

pub slice_bounds-run_read-end-3 : goal.slice_bounds-run_read-end-3
slice_bounds-run_read-end-3 g c = simp length-take (omega arith)

pub returns-then-s-at : goal.returns-then-s-at
returns-then-s-at g c = record { value = simp (eq-eqb _ _ c.if-s-at.true); past = tt }

pub returns-in_err-end : goal.returns-in_err-end
returns-in_err-end g c =
    record {
      value = simp (ne_eqb _ _ c.if-s-at.false) (c.from_residual.ensures ∙ c.in_err-end.ensures.value);
      past = rw c.from_residual.ensures tt;
    }

pub returns : goal.returns
returns g c =
    let e = c.in_ok-end.ensures.past in
    record { value = simp (ne_eqb _ _ c.if-s-at.false) (c.in_ok-end.ensures.value); past = (omega arith, omega arith) }
