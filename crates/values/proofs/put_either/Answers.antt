-- `values::put_either` meets its contract: one of the two. Assumes nothing.
use Rattle.values.proofs.put_either.Goals as goal

pub returns-then-json : goal.returns-then-json
returns-then-json c = rw c.if-json.true c.put_all.ensures.puts

pub returns : goal.returns
returns c = rw c.if-json.false c.put_all-2.ensures.puts
