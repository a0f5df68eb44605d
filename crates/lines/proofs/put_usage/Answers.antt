-- `lines::put_usage` meets its contract: its parts one after another. Assumes nothing.
use Rattle.chars.specs.PutsLaws.{puts_then, puts-as}
use Rattle.lines.specs.Messages.{usage_of}
use Rattle.lines.proofs.put_usage.Goals as goal

pub returns : goal.returns
unfolding usage_of
returns c =
    let whole = puts_then c.put_all-from.ensures.puts (puts_then (puts-as c.text.ensures c.put_all-next.ensures.puts) (puts_then (puts-as c.culprit.ensures c.put_all-end.ensures.puts) c.put_all.ensures.puts)) in
    record { prefix_len = c.put_all.ensures.prefix_len; puts = whole }
