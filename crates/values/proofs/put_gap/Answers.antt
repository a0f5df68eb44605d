-- `values::put_gap` meets its contract: blanks up to the column. Assumes nothing.
use Rattle.std.proofs.Common.{arith, length-take}
use Rattle.chars.specs.PutsLaws.{puts_none, puts-as}
use Rattle.values.specs.ValueLaws.{gap-none, gap-some}
use Rattle.values.proofs.put_gap.Goals as goal

pub returns-then-size-eq0 : goal.returns-then-size-eq0
returns-then-size-eq0 c = puts-as (gap-none _ c.if-size-eq0.true) (puts_none _ _ c.min.ensures)

pub returns : goal.returns
returns c =
    puts-as (gap-some _ {n = c.put_key-n.result} c.if-size-eq0.false (omega (arith, c.put_key-n.ensures.next))) c.put_all.ensures.puts

pub slice_bounds-put_all-end : goal.slice_bounds-put_all-end
slice_bounds-put_all-end c = simp length-take (omega arith)
