-- `lines::put_about` meets its contract: its parts one after another. Assumes nothing.
use Rattle.chars.specs.PutsLaws.{puts_then}
use Rattle.lines.proofs.put_about.Goals as goal

pub returns : goal.returns
returns c =
    record { prefix_len = c.put_all.ensures.prefix_len; puts = puts_then c.put_all-next.ensures.puts c.put_all.ensures.puts }
