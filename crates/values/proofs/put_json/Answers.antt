-- `values::put_json` meets its contract: in JSON alone. Assumes nothing.
use Rattle.chars.specs.PutsLaws.{puts_none}
use Rattle.values.proofs.put_json.Goals as goal

pub returns-then-json : goal.returns-then-json
returns-then-json c = rw c.if-json.true c.put_all.ensures.puts

pub returns : goal.returns
returns c = rw c.if-json.false (puts_none _ _ c.min.ensures)
