-- `showing::put_lists` meets its contract: the parts one after another. Assumes nothing.
use Rattle.chars.specs.PutsLaws.{puts_then}
use Rattle.showing.specs.Showing.{lists_of}
use Rattle.showing.proofs.put_lists.Goals as goal

pub returns : goal.returns
unfolding lists_of
returns c =
    puts_then c.put_json-from.ensures
    (puts_then c.put_addresses-listed.ensures
    (puts_then c.put_json-next.ensures (puts_then c.put_parameters-end.ensures c.put_json.ensures)))
