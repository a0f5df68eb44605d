-- `ips::digit_of` meets its contract. Assumes nothing.
use Rattle.std.proofs.Common.{arith}
use Rattle.ips.specs.Writes.{digit_low, digit-high}
use Rattle.ips.proofs.digit_of.Goals as goal

pub returns-in-0-to-9 : goal.returns-in-0-to-9
returns-in-0-to-9 c = digit_low _ (omega arith)

pub returns-in_default : goal.returns-in_default
returns-in_default c = digit-high _ (omega arith)
