-- `taking::stand` meets its contract: whether the records that are left stand in what is left says whether all do. Assumes nothing.
use Rattle.std.proofs.Common.{◌≡◌, refl, sym, ◌∙◌, ◌+◌, ◌-◌, ap, arith, drop}
use Rattle.blocks.specs.Block.{Fields}
use Rattle.sheets.specs.Sheets.{front_size}
use Rattle.taking.specs.Taking.{records_from, misplaced}
use Rattle.taking.specs.Took.{some}
use Rattle.taking.specs.WalkLaws.{stand-1, stand-2, stand-3, stand-4, stand-5}
use Rattle.taking.proofs.stand.Goals.{then-head-least-via-then-head-least, then-head-least-via-else-head-least+then-misplaced}
use Rattle.taking.proofs.stand.Goals as goal

pub loop-init : goal.loop-init
loop-init c = (omega arith, let a = c.args in ap (λ n. some (records_from a.c n 0 (drop front_size a.s.now))) (omega arith))

pub returns-in_default : goal.returns-in_default
returns-in_default c =
    let a = c.args in
    let i = c.loop in
    stand-1 a.c a.s.now i.at i.least (a.count - i.counter) i.invariant.0 i.invariant.1 (omega arith) refl c.in_default.ensures

pub returns-then-head-least : goal.returns-then-head-least
returns-then-head-least c =
    let a = c.args in
    let i = c.loop in
    let h = c.in-Some.ensures in
    let p = ap (λ (r : Fields). r.priority) h.fields in
    let t = ap (λ (r : Fields). misplaced a.c r.lifetime) h.fields in
    let left = a.count - i.counter in
    elim c.then-head-least.branch [
      | then-head-least-via-then-head-least w ↦
          stand-2 a.c a.s.now i.at i.least left i.invariant.0 i.invariant.1 (omega arith) refl h.good (omega (arith, p, w.if-head-least.true))
      | then-head-least-via-else-head-least+then-misplaced w ↦
          stand-3 a.c a.s.now i.at i.least left i.invariant.0 i.invariant.1 (omega arith) refl h.good (omega (arith, p, w.if-head-least.false))
          (sym t ∙ sym w.misplaced.ensures ∙ w.if-misplaced.true)
    ]

pub loop-preserved : goal.loop-preserved
loop-preserved c =
    let a = c.args in
    let i = c.loop in
    let h = c.in-Some.ensures in
    let p = ap (λ (r : Fields). r.priority) h.fields in
    let t = ap (λ (r : Fields). misplaced a.c r.lifetime) h.fields in
    let rest =
    stand-4 a.c a.s.now i.at i.least (a.count - i.counter) i.invariant.0 i.invariant.1 (omega arith) refl h.good (omega (arith, p, c.if-head-least.false))
    (sym t ∙ sym c.misplaced.ensures ∙ c.if-misplaced.false) in
    let n : a.count - (i.counter + 1) ≡ a.count - i.counter - 1 = omega arith in
    (omega (arith, h.next, h.inside.next), rw (n, p, h.next) rest)

pub returns : goal.returns
returns c =
    let a = c.args in
    let i = c.loop in
    stand-5 a.c a.s.now i.at i.least (a.count - i.counter) i.invariant.0 i.invariant.1 (omega arith)
