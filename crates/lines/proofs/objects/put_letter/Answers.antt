-- `lines::objects::put_letter` meets its contract: an octet after a backslash, as it is, or by its number. Assumes nothing.
use Rattle.std.proofs.Common.{arith}
use Rattle.chars.specs.PutsLaws.{puts-as}
use Rattle.lines.specs.ObjectsLaws.{letter-low, letter-high, letter-quotation, letter-backslash, letter-plain}
use Rattle.lines.proofs.objects.put_letter.Goals as goal
use Rattle.lines.proofs.objects.put_letter.Goals.{in_default-via-then-b-lt32, in_default-via-else-b-lt32+else-b-lt127}

pub returns-in-34 : goal.returns-in-34
returns-in-34 c = rw c.in-34.is (puts-as letter-quotation c.put_all.ensures.puts)

pub returns-in-92 : goal.returns-in-92
returns-in-92 c = rw c.in-92.is (puts-as letter-backslash c.put_all-in-92.ensures.puts)

pub returns-in-32-to-126 : goal.returns-in-32-to-126
returns-in-32-to-126 c =
    puts-as (letter-plain (omega arith) (omega arith) (λ e. omega arith) (λ e. omega arith)) c.put.ensures.puts

pub returns-in_default : goal.returns-in_default
returns-in_default c =
    elim c.in_default.branch [
      | in_default-via-then-b-lt32 w ↦ puts-as (letter-low (omega arith)) c.put_unit.ensures
      | in_default-via-else-b-lt32+else-b-lt127 w ↦ puts-as (letter-high (omega arith)) c.put_unit.ensures
    ]
