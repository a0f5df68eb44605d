-- `lines::said::put_unread` meets its contract: its parts one after another. Assumes nothing.
use Rattle.chars.specs.PutsLaws.{puts_then}
use Rattle.lines.specs.Said.{unread_of}
use Rattle.lines.proofs.said.put_unread.Goals as goal

pub returns : goal.returns
unfolding unread_of
returns c =
    let whole = puts_then c.put_about-next.ensures.puts (puts_then c.put_count-numbered.ensures (puts_then c.put_all-from.ensures.puts (puts_then (rw c.reason.ensures at c.put_all-end.ensures.puts) c.put_all.ensures.puts))) in
    record { prefix_len = c.put_all.ensures.prefix_len; puts = whole }
