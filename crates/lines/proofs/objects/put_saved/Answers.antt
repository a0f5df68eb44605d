-- `lines::objects::put_saved` meets its contract: its parts one after another. Assumes nothing.
use Rattle.chars.specs.PutsLaws.{puts_then}
use Rattle.lines.specs.Objects.{saved_of}
use Rattle.lines.proofs.objects.put_saved.Goals as goal

pub returns : goal.returns
unfolding saved_of
returns c =
    let whole = puts_then c.put_count-next.ensures c.put_all.ensures.puts in
    record { prefix_len = c.put_all.ensures.prefix_len; puts = whole }
