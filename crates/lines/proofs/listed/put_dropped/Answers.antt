-- `lines::listed::put_dropped` meets its contract: its parts one after another. Assumes nothing.
use Rattle.chars.specs.PutsLaws.{puts_then}
use Rattle.lines.specs.Listed.{dropped_of}
use Rattle.lines.proofs.listed.put_dropped.Goals as goal

pub returns : goal.returns
unfolding dropped_of
returns c =
    let back = puts_then c.put_all-from.ensures.puts (puts_then c.put_address-end.ensures c.put_all.ensures.puts) in
    let whole = puts_then c.put_about-next.ensures.puts (puts_then c.put_count-counted.ensures (puts_then c.put_count-placed.ensures back)) in
    record { prefix_len = c.put_all.ensures.prefix_len; puts = whole }
