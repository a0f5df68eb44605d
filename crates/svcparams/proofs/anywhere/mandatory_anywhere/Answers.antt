-- `svcparams::anywhere::mandatory_anywhere` meets its contract. The loop's invariant: what is left of the list decides. Assumes nothing.
use Rattle.std.proofs.Common.{arith, sym, ◌∙◌, eqb-true}
use Rattle.std.proofs.lemmas.Bool.{eqb-false}
use Rattle.svcparams.proofs.ValueLaws.{mandatory-none, mandatory-odd, list-start, list-end, list-low, list-absent, list-next}
use Rattle.svcparams.proofs.anywhere.mandatory_anywhere.Goals.{then-is_empty-via-then-is_empty, then-is_empty-via-else-is_empty+then-m-ne0}
use Rattle.svcparams.proofs.anywhere.mandatory_anywhere.Goals.{then-key-least-via-then-key-least, then-key-least-via-else-key-least+then-not-has_key}
use Rattle.svcparams.proofs.anywhere.mandatory_anywhere.Goals as goal

pub returns-then-is_empty : goal.returns-then-is_empty
returns-then-is_empty c =
    elim c.then-is_empty.branch [
      | then-is_empty-via-then-is_empty w ↦ mandatory-none _ _ (eqb-true _ _ (sym c.is_empty.ensures ∙ w.if-is_empty.true))
      | then-is_empty-via-else-is_empty+then-m-ne0 w ↦
          mandatory-odd _ _ (eqb-false _ _ (sym c.is_empty.ensures ∙ w.if-is_empty.false)) w.if-m-ne0.true
    ]

pub loop-left-init : goal.loop-left-init
loop-left-init c = list-start _ _ (eqb-false _ _ (sym c.is_empty.ensures ∙ c.if-is_empty.false)) c.if-m-ne0.false

pub returns-then-key-least : goal.returns-then-key-least
returns-then-key-least c =
    elim c.then-key-least.branch [
      | then-key-least-via-then-key-least w ↦
          list-low _ _ _ _ c.loop-left.invariant (omega arith) c.wide16-key.ensures.value w.if-key-least.true
      | then-key-least-via-else-key-least+then-not-has_key w ↦
          list-absent _ _ _ _ c.loop-left.invariant (omega arith) c.wide16-key.ensures.value w.if-key-least.false w.has_key.ensures
          w.if-not-has_key.true
    ]

pub loop-left-preserved : goal.loop-left-preserved
loop-left-preserved c =
    list-next _ _ _ _ c.loop-left.invariant (omega arith) c.wide16-key.ensures.value c.if-key-least.false c.has_key.ensures c.if-not-has_key.false

pub returns : goal.returns
returns c = list-end _ _ _ _ c.loop-left.invariant (omega arith)
