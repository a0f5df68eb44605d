-- `lines::said::put_less` meets its contract: its parts one after another. Assumes nothing.
use Rattle.chars.specs.PutsLaws.{puts_then, puts-as}
use Rattle.lines.specs.Said.{less_of}
use Rattle.lines.proofs.said.put_less.Goals as goal

pub returns : goal.returns
unfolding less_of
returns c =
    let back = puts_then c.put_all-from.ensures.puts (puts_then (puts-as c.hinted.ensures c.put_all-end.ensures.puts) c.put_all.ensures.puts) in
    let whole = puts_then c.put_about-next.ensures.puts (puts_then c.put_count-of.ensures (puts_then c.put_count-counted.ensures back)) in
    record { prefix_len = c.put_all.ensures.prefix_len; puts = whole }
