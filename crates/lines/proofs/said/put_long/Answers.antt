-- `lines::said::put_long` meets its contract: its parts one after another. Assumes nothing.
use Rattle.chars.specs.PutsLaws.{puts_then}
use Rattle.lines.specs.Said.{long_of}
use Rattle.lines.proofs.said.put_long.Goals as goal

pub returns : goal.returns
unfolding long_of
returns c =
    let whole = puts_then c.put_about-next.ensures.puts c.put_all.ensures.puts in
    record { prefix_len = c.put_all.ensures.prefix_len; puts = whole }
