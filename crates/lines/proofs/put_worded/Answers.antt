-- `lines::put_worded` meets its contract: its parts one after another. Assumes nothing.
use Rattle.chars.specs.PutsLaws.{puts_then}
use Rattle.lines.specs.Messages.{worded_of}
use Rattle.lines.proofs.put_worded.Goals as goal

pub returns : goal.returns
unfolding worded_of
returns c =
    puts_then c.put_number-numbered.ensures.puts (puts_then c.put_all-from.ensures.puts c.put_words.ensures)
