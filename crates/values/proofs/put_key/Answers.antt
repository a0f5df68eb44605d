-- `values::put_key` meets its contract: a key by its name, or by its number. Assumes nothing.
use Rattle.std.proofs.Common.{arith}
use Rattle.chars.specs.PutsLaws.{puts_then, puts-as}
use Rattle.values.specs.Values.{key_of}
use Rattle.values.specs.ValueLaws.{key-number}
use Rattle.values.proofs.put_key.Goals as goal

pub returns-in-0 : goal.returns-in-0
unfolding key_of
returns-in-0 c = rw c.in-0.is c.put_all.ensures.puts

pub returns-in-1 : goal.returns-in-1
unfolding key_of
returns-in-1 c = rw c.in-1.is c.put_all-in-1.ensures.puts

pub returns-in-2 : goal.returns-in-2
unfolding key_of
returns-in-2 c = rw c.in-2.is c.put_all-in-2.ensures.puts

pub returns-in-3 : goal.returns-in-3
unfolding key_of
returns-in-3 c = rw c.in-3.is c.put_all-in-3.ensures.puts

pub returns-in-7 : goal.returns-in-7
unfolding key_of
returns-in-7 c = rw c.in-7.is c.put_all-in-7.ensures.puts

pub returns-in_default : goal.returns-in_default
returns-in_default c =
    puts-as
    (key-number (λ e. omega arith) (λ e. omega arith) (λ e. omega arith) (λ e. omega arith) (λ e. omega arith))
    (puts_then c.put_all-next.ensures.puts c.put_number.ensures.puts)
