-- `decoding::read_raw` meets its contract. Assumes nothing.
use Rattle.decoding.specs.DecodingLaws.{raw-long, raw-taken}
use Rattle.decoding.proofs.read_raw.Goals as goal

pub returns-then-out-s : goal.returns-then-out-s
returns-then-out-s c = let a = c.args in raw-long a.s.now a.out.now c.if-out-s.true

pub returns : goal.returns
returns c =
    let a = c.args in
    raw-taken a.s.now a.out.now c.if-out-s.false c.copy.ensures
