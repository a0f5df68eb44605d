-- `svcparams::value` meets its contract. Assumes nothing.
use Rattle.std.proofs.Common.{rules, sym, ◌∙◌}
use Rattle.svcparams.proofs.ValueLaws.{value-mandatory}
use Rattle.svcparams.proofs.value.Goals as goal

pub returns-then-key-eq-NO_DEFAULT_ALPN : goal.returns-then-key-eq-NO_DEFAULT_ALPN
returns-then-key-eq-NO_DEFAULT_ALPN c = c.plain.ensures _ (λ h. c.has_key.ensures)

pub returns-then-key-ne-MANDATORY : goal.returns-then-key-ne-MANDATORY
returns-then-key-ne-MANDATORY c = c.plain-then-key-ne-MANDATORY.ensures _ (λ h. absurd (c.if-key-eq-NO_DEFAULT_ALPN.false h))

pub mandatory-requires : goal.mandatory-requires
mandatory-requires c = sym c.rises.ensures ∙ c.if-rises.true

pub returns-then-rises : goal.returns-then-rises
returns-then-rises c = search (rules, value-mandatory)

pub returns : goal.returns
returns c = search (rules, value-mandatory)
