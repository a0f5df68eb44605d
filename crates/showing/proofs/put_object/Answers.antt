-- `showing::put_object` meets its contract: the parts one after another. Assumes nothing.
use Rattle.std.proofs.Common.{◌∙◌}
use Rattle.chars.specs.PutsLaws.{puts_then, puts-as}
use Rattle.showing.specs.PartLaws.{object-is}
use Rattle.showing.proofs.put_object.Goals as goal

pub returns : goal.returns
returns c =
    puts-as
    (object-is _ (c.from.ensures ∙ c.number.ensures))
    (puts_then c.put_all-from.ensures.puts
    (puts_then c.put_number-numbered.ensures.puts (puts_then c.put_all-name.ensures.puts (puts_then c.put_carrier-named.ensures c.put_all.ensures.puts))))
