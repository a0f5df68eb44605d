-- `results::put_saved` meets its contract: its parts one after another. Assumes nothing.
use Rattle.chars.specs.PutsLaws.{puts_then}
use Rattle.results.specs.Results.{saved_of}
use Rattle.results.proofs.put_saved.Goals as goal

pub returns : goal.returns
unfolding saved_of
returns c =
    record { prefix_len = c.put_all.ensures.prefix_len; puts = puts_then c.put_numbers-next.ensures (puts_then c.put_count-end.ensures c.put_all.ensures.puts) }
