-- `values::put_name` meets its contract: the text of a name fits, and it is what is written. Assumes nothing.
use Rattle.std.proofs.Common.{◌∙◌, arith, length-take}
use Rattle.octets.specs.OverLaws.{wrote-front}
use Rattle.chars.specs.PutsLaws.{puts_none, puts-as}
use Rattle.values.specs.ValueLaws.{name-short, name-long}
use Rattle.values.proofs.put_name.Goals as goal

pub returns-then-wire-lt2 : goal.returns-then-wire-lt2
returns-then-wire-lt2 c = puts-as (name-short _ c.if-wire-lt2.true) (puts_none _ _ c.min.ensures)

pub returns : goal.returns
returns c =
    puts-as (wrote-front c.to_text-n.ensures ∙ name-long _ c.if-wire-lt2.false) c.put_all.ensures.puts

pub slice_bounds-put_all-end : goal.slice_bounds-put_all-end
slice_bounds-put_all-end c = simp length-take (omega arith)
