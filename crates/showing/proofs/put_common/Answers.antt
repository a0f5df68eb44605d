-- `showing::put_common` meets its contract: the parts one after another. Assumes nothing.
use Rattle.chars.specs.PutsLaws.{puts_then}
use Rattle.showing.specs.Showing.{common_of}
use Rattle.showing.proofs.put_common.Goals as goal

pub returns : goal.returns
unfolding common_of
returns c =
    puts_then c.put_either-from.ensures
    (puts_then c.put_name-named.ensures
    (puts_then c.put_either-ranked.ensures (puts_then c.put_number-next.ensures.puts c.put_lifetime.ensures)))
