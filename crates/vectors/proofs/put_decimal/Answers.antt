-- `vectors::put_decimal` meets its contract: its parts one after another. Assumes nothing.
use Rattle.chars.specs.PutsLaws.{puts_then}
use Rattle.vectors.proofs.put_decimal.Goals as goal

pub returns : goal.returns
returns c =
    puts_then c.put-next.ensures.puts c.put_number.ensures.puts
