-- `ips::put_number` meets its contract. It calls itself for the number without its last digit: the measure is how many digits more
-- there may be. Assumes nothing.
use Rattle.std.proofs.Common.{arith, ap, length}
use Rattle.ips.specs.Writes.{numeral-one, more-length, has_more, wrote_one, wrote-more}
use Rattle.ips.proofs.+put_number.Goals as goal

pub put_code-requires : goal.put_code-requires
put_code-requires t c = omega (arith, ap length (numeral-one c.args.base c.args.more c.args.n c.if-n-base.true))

pub returns-then-n-base : goal.returns-then-n-base
returns-then-n-base t c = wrote_one c.args.base c.args.more c.args.n c.if-n-base.true c.digit_of.ensures c.put_code.ensures

pub put_number-next-requires : goal.put_number-next-requires
put_number-next-requires t c =
    let m = has_more c.args.base c.args.more c.args.n c.requires.base_nonzero.0 c.requires.base_nonzero.1 c.if-n-base.false c.requires.base_nonzero.2 in
    let size = more-length c.args.base c.args.more c.args.n m.0 c.if-n-base.false in
    (omega arith, ((omega arith, omega arith, m.1), omega arith))

pub put_code-requires-2 : goal.put_code-requires-2
put_code-requires-2 t c =
    let m = has_more c.args.base c.args.more c.args.n c.requires.base_nonzero.0 c.requires.base_nonzero.1 c.if-n-base.false c.requires.base_nonzero.2 in
    let size = more-length c.args.base c.args.more c.args.n m.0 c.if-n-base.false in
    omega arith

pub returns : goal.returns
returns t c =
    let m = has_more c.args.base c.args.more c.args.n c.requires.base_nonzero.0 c.requires.base_nonzero.1 c.if-n-base.false c.requires.base_nonzero.2 in
    wrote-more c.args.base c.args.more c.args.n m.0 c.if-n-base.false c.digit_of-2.ensures c.put_number-next.ensures c.put_code-2.ensures
