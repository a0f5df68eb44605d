-- `svcparams::params_fault` meets its contract. The loop's invariant: what is left of the field decides. Assumes nothing.
use Rattle.std.proofs.Common.{sym, ◌∙◌, eqb-true}
use Rattle.std.proofs.lemmas.Bool.{eqb-false}
use Rattle.svcparams.proofs.WalkLaws.{order-start, order-bad, order-low, order-invalid, order-next, order-hint, order_value, order-none}
use Rattle.svcparams.proofs.WalkLaws.{climb-start, climb-next, climb-over}
use Rattle.svcparams.proofs.params_fault.Goals.{then-key-least-via-then-key-least, then-key-least-via-else-key-least+then-key-eq-INVALID}
use Rattle.svcparams.proofs.params_fault.Goals as goal

pub loop-left-init : goal.loop-left-init
loop-left-init c = (order-start _, climb-start _)

pub returns-in_default : goal.returns-in_default
returns-in_default c =
    let some = eqb-false _ _ (sym c.is_empty.ensures ∙ c.loop-left-test.true) in
    order-bad _ _ _ _ c.loop-left.invariant.0 some c.in_default.ensures.value

pub returns-then-key-least : goal.returns-then-key-least
returns-then-key-least c =
    let e = c.in-Some.ensures.value in
    let h = c.in-Some.ensures.bounds.0 in
    let q = c.get16-key.ensures.value in
    elim c.then-key-least.branch [
      | then-key-least-via-then-key-least w ↦ order-low _ _ _ _ c.loop-left.invariant.0 e h q w.if-key-least.true
      | then-key-least-via-else-key-least+then-key-eq-INVALID w ↦
          order-invalid _ _ _ _ c.loop-left.invariant.0 e h q w.if-key-eq-INVALID.true
    ]

pub loop-left-preserved : goal.loop-left-preserved
loop-left-preserved c =
    let e = c.in-Some.ensures.value in
    let h = c.in-Some.ensures.bounds.0 in
    let q = c.get16-key.ensures.value in
    let i = c.loop-left.invariant in
    (order-next _ _ _ _ i.0 e h q c.if-key-least.false c.if-key-eq-INVALID.false, climb-next _ _ _ i.1 e h q c.if-key-least.false)

pub returns-then-hinted : goal.returns-then-hinted
returns-then-hinted c =
    let none = eqb-true _ _ (sym c.is_empty.ensures ∙ c.loop-left-test.false) in
    order-hint _ _ _ _ c.loop-left.invariant.0 none c.if-hinted.true

pub values-requires : goal.values-requires
values-requires c = climb-over _ _ _ c.loop-left.invariant.1 (eqb-true _ _ (sym c.is_empty.ensures ∙ c.loop-left-test.false))

pub returns-then-not-values : goal.returns-then-not-values
returns-then-not-values c =
    let none = eqb-true _ _ (sym c.is_empty.ensures ∙ c.loop-left-test.false) in
    order_value _ _ _ _ c.loop-left.invariant.0 none c.if-hinted.false c.values.ensures c.if-not-values.true

pub returns : goal.returns
returns c =
    let none = eqb-true _ _ (sym c.is_empty.ensures ∙ c.loop-left-test.false) in
    order-none _ _ _ _ c.loop-left.invariant.0 none c.if-hinted.false c.values.ensures c.if-not-values.false
