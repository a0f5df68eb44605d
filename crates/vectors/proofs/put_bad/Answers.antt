-- `vectors::put_bad` meets its contract: its parts one after another. Assumes nothing.
use Rattle.chars.specs.PutsLaws.{puts_then}
use Rattle.vectors.proofs.put_bad.Goals as goal

pub returns : goal.returns
returns c =
    puts_then c.put_all-next.ensures.puts c.put_decimal.ensures
