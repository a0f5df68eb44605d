-- `lines::put_beside` meets its contract: its parts one after another. Assumes nothing.
use Rattle.chars.specs.PutsLaws.{puts_then}
use Rattle.lines.specs.Messages.{beside_of}
use Rattle.lines.proofs.put_beside.Goals as goal

pub returns : goal.returns
unfolding beside_of
returns c =
    let whole = puts_then c.put_about-next.ensures.puts (puts_then c.put_count-end.ensures c.put_all.ensures.puts) in
    record { prefix_len = c.put_all.ensures.prefix_len; puts = whole }
