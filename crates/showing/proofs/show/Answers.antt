-- `showing::show` meets its contract: the sheet, and then the line break. Assumes nothing.
use Rattle.chars.specs.PutsLaws.{puts_then}
use Rattle.showing.proofs.show.Goals as goal

pub returns : goal.returns
returns c =
    record { prefix_len = c.put.ensures.prefix_len; puts = puts_then c.put_sheet-end.ensures c.put.ensures.puts }
