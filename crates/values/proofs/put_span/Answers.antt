-- `values::put_span` meets its contract: a lifetime by its cases. Assumes nothing.
use Rattle.std.proofs.Common.{arith}
use Rattle.chars.specs.PutsLaws.{puts_then, puts-as}
use Rattle.values.specs.Values.{span_of}
use Rattle.values.specs.ValueLaws.{span-some}
use Rattle.values.proofs.put_span.Goals as goal

pub returns-then-json : goal.returns-then-json
unfolding span_of
returns-then-json c = rw c.if-json.true c.put_number.ensures.puts

pub returns-in-4294967295 : goal.returns-in-4294967295
unfolding span_of
returns-in-4294967295 c = rw (c.if-json.false, c.in-4294967295.is) c.put_all.ensures.puts

pub returns-in-0 : goal.returns-in-0
unfolding span_of
returns-in-0 c = rw (c.if-json.false, c.in-0.is) c.put_all-in-0.ensures.puts

pub returns-in_default : goal.returns-in_default
returns-in_default c =
    puts-as (span-some _ c.if-json.false (λ e. omega arith) (λ e. omega arith)) (puts_then c.put_number-next.ensures.puts c.put_all-in_default.ensures.puts)
