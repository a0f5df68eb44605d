-- `lines::listed::put_cause` meets its contract: its parts one after another. Assumes nothing.
use Rattle.chars.specs.PutsLaws.{puts_then}
use Rattle.lines.specs.Listed.{cause_of}
use Rattle.lines.proofs.listed.put_cause.Goals as goal

pub returns : goal.returns
unfolding cause_of
returns c =
    let whole = puts_then c.put_worded-worded.ensures (puts_then c.put_reason_part-reasoned.ensures (puts_then c.put_key_part-end.ensures c.put_all.ensures.puts)) in
    record { prefix_len = c.put_all.ensures.prefix_len; puts = whole }
