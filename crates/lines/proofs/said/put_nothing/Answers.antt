-- `lines::said::put_nothing` meets its contract: its parts one after another. Assumes nothing.
use Rattle.chars.specs.PutsLaws.{puts_then, puts-as}
use Rattle.lines.specs.Said.{nothing_of}
use Rattle.lines.proofs.said.put_nothing.Goals as goal

pub returns : goal.returns
unfolding nothing_of
returns c =
    let whole = puts_then c.put_about-next.ensures.puts (puts_then (puts-as c.missing.ensures c.put_all-counted.ensures.puts) (puts_then c.put_number-numbered.ensures.puts (puts_then c.put_all-from.ensures.puts (puts_then (puts-as c.hinted.ensures c.put_all-end.ensures.puts) c.put_all.ensures.puts)))) in
    record { prefix_len = c.put_all.ensures.prefix_len; puts = whole }
