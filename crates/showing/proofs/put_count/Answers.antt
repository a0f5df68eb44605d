-- `showing::put_count` meets its contract: the parts one after another. Assumes nothing.
use Rattle.chars.specs.PutsLaws.{puts_then}
use Rattle.showing.specs.Showing.{count_of}
use Rattle.showing.proofs.put_count.Goals as goal

pub returns : goal.returns
unfolding count_of
returns c =
    puts_then c.put_all-from.ensures.puts (puts_then c.put_number-counted.ensures.puts c.put_either.ensures)
