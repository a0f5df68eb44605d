-- `arguments::given` meets its contract. The loop's invariant: the arguments before `i` are taken. Assumes nothing.
use Rattle.arguments.specs.LineLaws.{taken_none, taken_more, taken-all}
use Rattle.arguments.proofs.given.Goals as goal

pub loop-i-init : goal.loop-i-init
loop-i-init g c = taken_none _

pub loop-i-preserved : goal.loop-i-preserved
loop-i-preserved g c = taken_more c.loop-i.invariant c.with_argument-a.ensures

pub returns : goal.returns
returns g c = taken-all c.first-a.ensures c.loop-i.invariant c.settled.ensures
