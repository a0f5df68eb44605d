-- `dumps::lay` meets its contract: the tests in order. Assumes nothing.
use Rattle.std.proofs.Common.{ap}
use Rattle.dumps.specs.Held.{mode_in}
use Rattle.dumps.specs.HeldLaws.{mode-low}
use Rattle.dumps.specs.DumpsLaws.{lay-none, lay-long, lay-one}
use Rattle.dumps.proofs.lay.Goals as goal

pub returns-in_default : goal.returns-in_default
returns-in_default c = lay-none _ _ _ (mode-low _ c.in_default.not-Low)

pub returns-then-out-n : goal.returns-then-out-n
returns-then-out-n c = lay-long _ _ _ (ap mode_in c.in-Low.is) c.if-out-n.true

pub returns : goal.returns
returns c = lay-one _ _ _ (ap mode_in c.in-Low.is) c.if-out-n.false
