-- `showing::put_record` meets its contract: the fields of every record, and those of its mode. Assumes nothing.
use Rattle.blocks.specs.Parts.{fields_in}
use Rattle.chars.specs.PutsLaws.{puts_then, puts-as}
use Rattle.showing.specs.PartLaws.{record_is}
use Rattle.showing.proofs.put_record.Goals as goal

pub returns : goal.returns
returns c =
    let a = c.args in
    puts_then c.put_comma-from.ensures (puts-as (record_is a.json a.c (fields_in a.p.now)) (puts_then c.put_common-next.ensures c.put_rest.ensures))
