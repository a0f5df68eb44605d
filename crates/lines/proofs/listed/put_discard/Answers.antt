-- `lines::listed::put_discard` meets its contract: its parts one after another. Assumes nothing.
use Rattle.chars.specs.PutsLaws.{puts_then}
use Rattle.lines.specs.Listed.{discarded_of}
use Rattle.lines.proofs.listed.put_discard.Goals as goal

pub returns : goal.returns
unfolding discarded_of
returns c =
    let cause = rw (c.number.ensures, c.number_in-reason.ensures, c.unwrap_or-key.ensures) at c.put_cause.ensures.puts in
    let back = puts_then c.put_count-placed.ensures (puts_then c.put_all-from.ensures.puts cause) in
    let whole = puts_then c.put_about-next.ensures.puts (puts_then c.put_count-counted.ensures back) in
    record { prefix_len = c.put_cause.ensures.prefix_len; puts = whole }
