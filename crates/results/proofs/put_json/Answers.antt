-- `results::put_json` meets its contract: its parts one after another. Assumes nothing.
use Rattle.chars.specs.PutsLaws.{puts_then}
use Rattle.results.specs.Results.{json_of}
use Rattle.results.proofs.put_json.Goals as goal

pub returns : goal.returns
unfolding json_of
returns c =
    let whole = puts_then c.put_numbers-next.ensures (puts_then c.put_all-from.ensures.puts (puts_then c.put_sheet-end.ensures c.put_all.ensures.puts)) in
    record { prefix_len = c.put_all.ensures.prefix_len; puts = whole }
