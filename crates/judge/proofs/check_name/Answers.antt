-- `judge::check_name` meets its contract, by the side and the carrier. Assumes nothing.
use Rattle.std.proofs.Common.{sym, ◌∙◌}
use Rattle.judge.specs.Outcomes.{name-written, name-text, name-wire}
use Rattle.judge.proofs.check_name.Goals as goal

pub returns-in-Writing : goal.returns-in-Writing
returns-in-Writing c = name-written _ _ _ _ c.in-Writing.is c.check_wire.ensures.value

pub returns-then-as_text : goal.returns-then-as_text
returns-then-as_text c = name-text _ _ _ _ c.in-Reading.is (sym c.as_text.ensures ∙ c.if-as_text.true) c.check_text.ensures.value

pub returns-else-as_text : goal.returns-else-as_text
returns-else-as_text c = name-wire _ _ _ _ c.in-Reading.is (sym c.as_text.ensures ∙ c.if-as_text.false) c.check_wire-else-as_text.ensures.value
