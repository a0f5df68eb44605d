-- `lines::said::put_refused` meets its contract: its parts one after another. Assumes nothing.
use Rattle.chars.specs.PutsLaws.{puts_then, puts-as}
use Rattle.lines.specs.Said.{refused_of}
use Rattle.lines.proofs.said.put_refused.Goals as goal

pub returns : goal.returns
unfolding refused_of
returns c =
    let back = puts_then c.put_worded-worded.ensures (puts_then (puts-as c.hinted.ensures c.put_all-end.ensures.puts) c.put_all.ensures.puts) in
    let whole = puts_then c.put_about-next.ensures.puts (puts_then c.put_all-from.ensures.puts back) in
    record { prefix_len = c.put_all.ensures.prefix_len; puts = whole }
