-- `names::check_wire` meets its contract. Assumes nothing.
use Rattle.std.proofs.Common.{arith, ◌≡◌, ◌∙◌, ℕ, List, length-take}
use Rattle.names.specs.Wire.{name_check}
use Rattle.names.specs.Exact.{first-enough}
use Rattle.names.specs.Right.{right}
use Rattle.names.proofs.check_wire.Goals as goal

pub returns-then-s-le256 : goal.returns-then-s-le256
returns-then-s-le256 c = record { value = c.check_held.ensures; right = right _ _ c.check_held.ensures }

pub slice_bounds-check_held-end : goal.slice_bounds-check_held-end
slice_bounds-check_held-end c = simp length-take (omega arith)

pub check_held-requires-2 : goal.check_held-requires-2
check_held-requires-2 c = simp length-take (omega arith)

pub returns : goal.returns
returns c =
    let s : List ℕ = c.args.s.now in
    let e : c.check_held-2.result ≡ name_check s = c.check_held-2.ensures ∙ first-enough s 256 (omega arith) in
    record { value = e; right = right s _ e }
