-- `records::wire_size` meets its contract: text is two octets shorter. Assumes nothing.
use Rattle.records.specs.Outcomes.{size-text, size-wire}
use Rattle.records.proofs.wire_size.Goals as goal

pub returns-then-text : goal.returns-then-text
returns-then-text c = size-text c.args.text _ c.if-text.true

pub returns : goal.returns
returns c = size-wire c.args.text _ c.if-text.false
