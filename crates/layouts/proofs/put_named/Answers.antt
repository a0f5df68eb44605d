-- `layouts::put_named` meets its contract: the fields of carriers 1 and 2, one after the other. Assumes nothing.
use Rattle.std.proofs.Common.{arith}
use Rattle.blocks.specs.Parts.{fields_in}
use Rattle.layouts.specs.Writes.{counted-size, named-full, named-least, after-addresses-room, wrote-full, wrote-name-only}
use Rattle.layouts.proofs.put_named.Goals as goal

pub put16-at_name-requires : goal.put16-at_name-requires
put16-at_name-requires c =
    let a = c.args in
    let r = fields_in a.p.now in
    let w = c.length_width-width in
    (omega (arith, named-least a.c r w.result c.requires.named w.ensures, c.requires.in_bounds), c.requires.fits.priority)

pub put_counted-end-requires-clause-src_in_bounds : goal.put_counted-end-requires-clause-src_in_bounds
put_counted-end-requires-clause-src_in_bounds c =
    let a = c.args in
    let r = fields_in a.p.now in
    let w = c.length_width-width in
    omega (arith, named-least a.c r w.result c.requires.named w.ensures, c.requires.in_bounds)

pub put_counted-at_parameters-requires-clause-src_in_bounds : goal.put_counted-at_parameters-requires-clause-src_in_bounds
put_counted-at_parameters-requires-clause-src_in_bounds c =
    let a = c.args in
    let r = fields_in a.p.now in
    let w = c.length_width-width in
    let whole = named-full a.c r w.result c.requires.named w.ensures c.if-p.true in
    omega (arith, whole, c.requires.in_bounds, c.put_counted-end.ensures.next, counted-size w.result a.p.now.name.now)

pub copy-requires : goal.copy-requires
copy-requires c =
    let a = c.args in
    let r = fields_in a.p.now in
    let w = c.length_width-width in
    after-addresses-room a.c r w.result c.requires.named w.ensures c.if-p.true c.put16-at_name.ensures c.put_counted-end.ensures
    c.put_counted-at_parameters.ensures c.requires.in_bounds

pub returns-then-p : goal.returns-then-p
returns-then-p c =
    let a = c.args in
    let r = fields_in a.p.now in
    let w = c.length_width-width in
    wrote-full a.c r w.result c.requires.named w.ensures c.if-p.true c.put16-at_name.ensures c.put_counted-end.ensures
    c.put_counted-at_parameters.ensures c.copy.ensures

pub returns : goal.returns
returns c =
    let a = c.args in
    let r = fields_in a.p.now in
    let w = c.length_width-width in
    wrote-name-only a.c r w.result c.requires.named w.ensures c.if-p.false c.put16-at_name.ensures c.put_counted-end.ensures
