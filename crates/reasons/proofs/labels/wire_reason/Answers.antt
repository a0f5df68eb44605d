-- `reasons::labels::wire_reason` meets its contract. Assumes nothing.
use Rattle.std.proofs.Common.{rules, sym, ◌∙◌}
use Rattle.reasons.specs.NamesLaws.{wire-cut, wire-length, wire-label, wire-after}
use Rattle.reasons.specs.Names.{wire_reason}
use Rattle.reasons.proofs.labels.wire_reason.Goals as goal

pub returns-then-is_empty : goal.returns-then-is_empty
unfolding wire_reason
returns-then-is_empty c = simp (sym c.is_empty.ensures ∙ c.if-is_empty.true)

pub returns-then-s-at : goal.returns-then-s-at
returns-then-s-at c = search (rules, wire-cut)

pub returns-in-Length : goal.returns-in-Length
returns-in-Length c = search (rules, wire-length)

pub returns-in-Label : goal.returns-in-Label
returns-in-Label c = search (rules, wire-label)

pub returns-in-After : goal.returns-in-After
returns-in-After c = search (rules, wire-after)
