-- `lines::objects::put_unit` meets its contract: its parts one after another. Assumes nothing.
use Rattle.chars.specs.PutsLaws.{puts_then}
use Rattle.lines.proofs.objects.put_unit.Goals as goal

pub returns : goal.returns
returns c =
    let whole = puts_then c.put_all-next.ensures.puts c.put_octet.ensures.puts in
    whole
