-- `reasons::fields::unordered` meets its contract. The loop's invariant: what is left of the field decides. Assumes nothing.
use Rattle.std.proofs.Common.{rules, arith}
use Rattle.reasons.specs.ParamsLaws.{ordering-start, ordering-short, ordering-low, ordering-invalid, ordering-next, ordering-end}
use Rattle.reasons.proofs.fields.unordered.Goals.{then-key-least-via-then-key-least, then-key-least-via-else-key-least+then-key-eq-INVALID}
use Rattle.reasons.proofs.fields.unordered.Goals as goal

pub loop-at-init : goal.loop-at-init
loop-at-init c = ordering-start _

pub returns-in_default-clause-value : goal.returns-in_default-clause-value
returns-in_default-clause-value c = ordering-short _ _ _ c.loop-at.invariant c.in_default.ensures.value (omega arith)

pub returns-then-key-least-clause-value : goal.returns-then-key-least-clause-value
returns-then-key-least-clause-value c =
    let e = c.in-Some.ensures.value in
    let h = c.in-Some.ensures.bounds.0 in
    let q = c.get16-key.ensures.value in
    elim c.then-key-least.branch [
      | then-key-least-via-then-key-least w ↦
          ordering-low _ _ _ c.loop-at.invariant e h q w.if-key-least.true
      | then-key-least-via-else-key-least+then-key-eq-INVALID w ↦
          ordering-invalid _ _ _ c.loop-at.invariant e h q w.if-key-eq-INVALID.true
    ]

pub loop-at-preserved : goal.loop-at-preserved
loop-at-preserved c =
    ordering-next _ _ _ c.loop-at.invariant c.in-Some.ensures.value c.in-Some.ensures.bounds.0 c.get16-key.ensures.value
    c.if-key-least.false c.if-key-eq-INVALID.false

pub returns-clause-value : goal.returns-clause-value
returns-clause-value c = search (rules, ordering-end)
