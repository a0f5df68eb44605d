-- `reasons::labels::letter_reason` meets its contract. Assumes nothing.
use Rattle.std.proofs.Common.{le-leb}
use borrow.Author.Tests.{lt-leb}
use Rattle.reasons.proofs.labels.letter_reason.Goals as goal

pub returns-then-at-ge253 : goal.returns-then-at-ge253
returns-then-at-ge253 c = simp (le-leb _ _ c.if-at-ge253.true)

pub returns : goal.returns
returns c = simp (lt-leb _ _ c.if-at-ge253.false)
