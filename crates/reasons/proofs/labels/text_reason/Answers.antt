-- `reasons::labels::text_reason` meets its contract. Assumes nothing.
use Rattle.std.proofs.Common.{rules, sym, ◌∙◌}
use Rattle.reasons.specs.NamesLaws.{text-dot, text-hyphen, text-within}
use Rattle.reasons.specs.Names.{text_reason}
use Rattle.reasons.proofs.labels.text_reason.Goals as goal

pub returns-then-is_empty : goal.returns-then-is_empty
unfolding text_reason
returns-then-is_empty c = simp (sym c.is_empty.ensures ∙ c.if-is_empty.true)

pub returns-then-before-eq46 : goal.returns-then-before-eq46
returns-then-before-eq46 c = search (rules, text-dot)

pub returns-then-s-at : goal.returns-then-s-at
returns-then-s-at c = search (rules, text-hyphen)

pub returns : goal.returns
returns c = search (rules, text-within)
