-- `vectors::put_good` meets its contract: its parts one after another. Assumes nothing.
use Rattle.chars.specs.PutsLaws.{puts_then}
use Rattle.vectors.proofs.put_good.Goals as goal

pub returns : goal.returns
returns c =
    puts_then c.put_all-next.ensures.puts c.put_hex.ensures
