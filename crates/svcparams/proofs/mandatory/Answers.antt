-- `svcparams::mandatory` meets its contract. Assumes nothing.
use Rattle.std.proofs.Common.{sym, ◌∙◌, eqb-true}
use Rattle.std.proofs.lemmas.Bool.{eqb-false}
use Rattle.svcparams.proofs.ValueLaws.{mandatory-none, mandatory-odd, mandatory-walked}
use Rattle.svcparams.proofs.mandatory.Goals.{then-is_empty-via-then-is_empty, then-is_empty-via-else-is_empty+then-m-ne0}
use Rattle.svcparams.proofs.mandatory.Goals as goal

pub returns-then-is_empty : goal.returns-then-is_empty
returns-then-is_empty c =
    elim c.then-is_empty.branch [
      | then-is_empty-via-then-is_empty w ↦ mandatory-none _ _ (eqb-true _ _ (sym c.is_empty.ensures ∙ w.if-is_empty.true))
      | then-is_empty-via-else-is_empty+then-m-ne0 w ↦
          mandatory-odd _ _ (eqb-false _ _ (sym c.is_empty.ensures ∙ w.if-is_empty.false)) w.if-m-ne0.true
    ]

pub returns : goal.returns
returns c =
    mandatory-walked _ _ (eqb-false _ _ (sym c.is_empty.ensures ∙ c.if-is_empty.false)) c.if-m-ne0.false c.requires c.all_present.ensures
