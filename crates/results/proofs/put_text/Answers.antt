-- `results::put_text` meets its contract: its parts one after another. Assumes nothing.
use Rattle.chars.specs.PutsLaws.{puts_then}
use Rattle.results.specs.Results.{text_of}
use Rattle.results.proofs.put_text.Goals as goal

pub returns : goal.returns
unfolding text_of
returns c =
    let back = puts_then c.put_count-counted.ensures (puts_then c.put_first_part-last.ensures c.put_all.ensures.puts) in
    record { prefix_len = c.put_all.ensures.prefix_len; puts = puts_then c.put_sheet-end.ensures (puts_then c.put_count-next.ensures back) }
