-- `showing::put_head` meets its contract: by the form. Assumes nothing.
use Rattle.showing.proofs.put_head.Goals as goal

pub returns-then-json : goal.returns-then-json
returns-then-json c = rw c.if-json.true c.put_object.ensures

pub returns : goal.returns
returns c = rw c.if-json.false c.put_line.ensures
