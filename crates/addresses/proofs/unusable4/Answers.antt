-- `addresses::unusable4` meets its contract: its tests are the definition's. Assumes nothing.
use Rattle.std.proofs.Common.{arith}
use Rattle.addresses.specs.AddressesLaws.{unusable4-loopback, unusable4-below, unusable4-above}
use Rattle.addresses.proofs.unusable4.Goals as goal

pub returns-then-first-eq127 : goal.returns-then-first-eq127
returns-then-first-eq127 c = unusable4-loopback c.args.first (omega arith)

pub returns-then-first-lt224 : goal.returns-then-first-lt224
returns-then-first-lt224 c = unusable4-below c.args.first (omega arith) (omega arith)

pub returns : goal.returns
returns c = unusable4-above c.args.first (omega arith)
