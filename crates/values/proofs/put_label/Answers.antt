-- `values::put_label` meets its contract: the parts one after another. Assumes nothing.
use Rattle.chars.specs.PutsLaws.{puts_then}
use Rattle.values.specs.Values.{label_of}
use Rattle.values.proofs.put_label.Goals as goal

pub returns-then-json : goal.returns-then-json
unfolding label_of
returns-then-json c =
    rw c.if-json.true
    (puts_then c.put_all-from.ensures.puts
    (puts_then c.put_number-numbered.ensures.puts (puts_then c.put_all-name.ensures.puts (puts_then c.put_key-named.ensures c.put_all.ensures.puts))))

pub returns : goal.returns
unfolding label_of
returns c =
    rw c.if-json.false (puts_then c.put_all-from-2.ensures.puts (puts_then c.put_key-named-2.ensures c.put_gap.ensures))
