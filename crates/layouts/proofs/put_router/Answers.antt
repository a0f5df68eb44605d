-- `layouts::put_router` meets its contract: the fields of carrier 3, one after the other, and the zeros. Assumes nothing.
use Rattle.std.proofs.Common.{ap, ◌∙◌, arith}
use Rattle.blocks.specs.Block.{padding_after}
use Rattle.blocks.specs.Parts.{fields_in}
use Rattle.layouts.specs.Writes.{
  router-least,
  addresses-room,
  parameters-room,
  zeros-room-full,
  zeros-room-name-only,
  wrote-router-full,
  wrote-router-name-only,
}
use Rattle.layouts.proofs.put_router.Goals as goal

pub put16-at_lifetime-requires : goal.put16-at_lifetime-requires
put16-at_lifetime-requires c =
    let a = c.args in
    let r = fields_in a.p.now in
    (omega (arith, router-least r, c.requires.in_bounds), c.requires.fits.priority)

pub put32-at_name-requires : goal.put32-at_name-requires
put32-at_name-requires c =
    let a = c.args in
    let r = fields_in a.p.now in
    (omega (arith, router-least r, c.requires.in_bounds), c.requires.fits.lifetime)

pub put_counted-end-requires-clause-src_in_bounds : goal.put_counted-end-requires-clause-src_in_bounds
put_counted-end-requires-clause-src_in_bounds c =
    let a = c.args in
    let r = fields_in a.p.now in
    omega (arith, router-least r, c.requires.in_bounds)

pub put_counted-at_parameters-requires-clause-src_in_bounds : goal.put_counted-at_parameters-requires-clause-src_in_bounds
put_counted-at_parameters-requires-clause-src_in_bounds c =
    let a = c.args in
    let r = fields_in a.p.now in
    let o = c.of.ensures in
    let zeros = c.padding_size-zeros.ensures.0 ∙ ap padding_after (rw (o.full, o.name, o.addresses, o.parameters) at c.unpadded.ensures.value) in
    addresses-room r c.padding_size-zeros.result zeros c.put16-at_lifetime.ensures c.put32-at_name.ensures c.put_counted-end.ensures c.if-p.true
    c.requires.in_bounds

pub put_counted-at_padding-requires-clause-src_in_bounds : goal.put_counted-at_padding-requires-clause-src_in_bounds
put_counted-at_padding-requires-clause-src_in_bounds c =
    let a = c.args in
    let r = fields_in a.p.now in
    let o = c.of.ensures in
    let zeros = c.padding_size-zeros.ensures.0 ∙ ap padding_after (rw (o.full, o.name, o.addresses, o.parameters) at c.unpadded.ensures.value) in
    parameters-room r c.padding_size-zeros.result zeros c.put16-at_lifetime.ensures c.put32-at_name.ensures c.put_counted-end.ensures c.if-p.true
    c.put_counted-at_parameters.ensures c.requires.in_bounds

pub put_zeros-requires : goal.put_zeros-requires
put_zeros-requires c =
    let a = c.args in
    let r = fields_in a.p.now in
    let o = c.of.ensures in
    let zeros = c.padding_size-zeros.ensures.0 ∙ ap padding_after (rw (o.full, o.name, o.addresses, o.parameters) at c.unpadded.ensures.value) in (
      zeros-room-full r c.padding_size-zeros.result zeros c.put16-at_lifetime.ensures c.put32-at_name.ensures c.put_counted-end.ensures c.if-p.true
          c.put_counted-at_parameters.ensures c.put_counted-at_padding.ensures c.requires.in_bounds,
      c.padding_size-zeros.ensures.1,
    )

pub returns-then-p : goal.returns-then-p
returns-then-p c =
    let a = c.args in
    let r = fields_in a.p.now in
    let o = c.of.ensures in
    let zeros = c.padding_size-zeros.ensures.0 ∙ ap padding_after (rw (o.full, o.name, o.addresses, o.parameters) at c.unpadded.ensures.value) in
    wrote-router-full r c.padding_size-zeros.result zeros c.put16-at_lifetime.ensures c.put32-at_name.ensures c.put_counted-end.ensures c.if-p.true
    c.put_counted-at_parameters.ensures c.put_counted-at_padding.ensures c.put_zeros.ensures

pub put_zeros-requires-2 : goal.put_zeros-requires-2
put_zeros-requires-2 c =
    let a = c.args in
    let r = fields_in a.p.now in
    let o = c.of.ensures in
    let zeros = c.padding_size-zeros.ensures.0 ∙ ap padding_after (rw (o.full, o.name, o.addresses, o.parameters) at c.unpadded.ensures.value) in (
      zeros-room-name-only r c.padding_size-zeros.result zeros c.put16-at_lifetime.ensures c.put32-at_name.ensures c.put_counted-end.ensures
          c.if-p.false c.requires.in_bounds,
      c.padding_size-zeros.ensures.1,
    )

pub returns : goal.returns
returns c =
    let a = c.args in
    let r = fields_in a.p.now in
    let o = c.of.ensures in
    let zeros = c.padding_size-zeros.ensures.0 ∙ ap padding_after (rw (o.full, o.name, o.addresses, o.parameters) at c.unpadded.ensures.value) in
    wrote-router-name-only r c.padding_size-zeros.result zeros c.put16-at_lifetime.ensures c.put32-at_name.ensures c.put_counted-end.ensures
    c.if-p.false c.put_zeros-2.ensures
