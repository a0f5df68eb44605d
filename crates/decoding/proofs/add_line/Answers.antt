-- `decoding::add_line` meets its contract. Assumes nothing.
use Rattle.decoding.specs.DecodingLaws.{line-told}
use Rattle.decoding.proofs.add_line.Goals as goal

pub returns : goal.returns
returns c =
    let a = c.args in
    line-told a.c a.line.now a.out.now a.n c.read_list-read.ensures c.add_read.ensures c.at_value.ensures
