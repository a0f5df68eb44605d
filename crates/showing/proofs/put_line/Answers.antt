-- `showing::put_line` meets its contract: the parts one after another. Assumes nothing.
use Rattle.std.proofs.Common.{◌∙◌}
use Rattle.chars.specs.PutsLaws.{puts_then, puts-as}
use Rattle.showing.specs.PartLaws.{line-is}
use Rattle.showing.proofs.put_line.Goals as goal

pub returns : goal.returns
returns c =
    puts-as
    (line-is _ (c.from.ensures ∙ c.number.ensures) _)
    (puts_then c.put_carrier-named.ensures
    (puts_then c.put_all-opened.ensures.puts (puts_then c.put_number-numbered.ensures.puts c.put_count.ensures)))
