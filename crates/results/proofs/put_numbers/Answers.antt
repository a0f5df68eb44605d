-- `results::put_numbers` meets its contract: its parts one after another. Assumes nothing.
use Rattle.chars.specs.PutsLaws.{puts_then}
use Rattle.results.specs.Results.{numbers_of}
use Rattle.results.proofs.put_numbers.Goals as goal

pub returns : goal.returns
unfolding numbers_of
returns c =
    puts_then c.put_count-next.ensures (puts_then c.put_count-counted.ensures (puts_then c.put_count-last.ensures c.put_count.ensures))
