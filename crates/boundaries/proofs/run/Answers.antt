-- `boundaries::run` is safe and ends: a case ends after its letter. The loop's invariant: `out` keeps its length. Assumes nothing.
use Rattle.std.proofs.Common.{arith, subst}
use Rattle.boundaries.specs.Cases.{Past}
use Rattle.boundaries.proofs.run.Goals as goal

pub loop-at-smaller : goal.loop-at-smaller
loop-at-smaller g c =
    let e = subst (Past _ _) c.in-Some.is c.run_case.ensures.past in
    omega arith
