-- `vectors::put_case` meets its contract: its parts one after another. Assumes nothing.
use Rattle.chars.specs.PutsLaws.{puts_then}
use Rattle.vectors.proofs.put_case.Goals as goal

pub returns : goal.returns
returns c =
    puts_then c.put-next.ensures.puts c.answer.ensures
