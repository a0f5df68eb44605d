-- `lines::objects::put_octets` meets its contract: its parts one after another. Assumes nothing.
use Rattle.chars.specs.PutsLaws.{puts_then}
use Rattle.lines.specs.Objects.{octets_of}
use Rattle.lines.proofs.objects.put_octets.Goals as goal

pub returns : goal.returns
unfolding octets_of
returns c =
    let whole = puts_then c.put_count-counted.ensures (puts_then c.put_all-from.ensures.puts (puts_then c.put_octets-end.ensures.puts c.put_all.ensures.puts)) in
    record { prefix_len = c.put_all.ensures.prefix_len; puts = whole }
