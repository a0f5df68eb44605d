-- `layouts::put_attribute` meets its contract: the fields of carriers 4 and 5, one after the other. Assumes nothing.
use Rattle.std.proofs.Common.{arith, ◌≡◌, ap, List, ℕ, ◌/◌, length}
use Rattle.blocks.specs.Parts.{fields_in}
use Rattle.layouts.specs.Writes.{attribute-length, attribute-asks, text-room, after-text-room, wrote-attribute}
use Rattle.layouts.proofs.put_attribute.Goals as goal

-- how many addresses there are, by their width
count : (s : List ℕ) {w v : ℕ} → w ≡ v → length s / w ≡ length s / v
count s e = ap (λ (n : ℕ). length s / n) e

pub put16-at_count-requires : goal.put16-at_count-requires
put16-at_count-requires c =
    let a = c.args in
    let r = fields_in a.p.now in
    (omega (arith, attribute-length r a.c c.requires.c_value, c.requires.in_bounds), c.requires.fits.priority)

pub put8-at_nlen-requires : goal.put8-at_nlen-requires
put8-at_nlen-requires c =
    let a = c.args in
    let r = fields_in a.p.now in
    omega (arith, attribute-length r a.c c.requires.c_value, c.requires.in_bounds)

pub overflow_cast-p : goal.overflow_cast-p
overflow_cast-p c =
    let a = c.args in
    let r = fields_in a.p.now in
    omega (arith, attribute-asks r a.c c.requires.c_value c.requires.fits)

pub put8-at_addresses-requires : goal.put8-at_addresses-requires
put8-at_addresses-requires c =
    let a = c.args in
    let r = fields_in a.p.now in
    omega (arith, attribute-length r a.c c.requires.c_value, c.requires.in_bounds)

pub copy-at_name-requires : goal.copy-at_name-requires
copy-at_name-requires c =
    let a = c.args in
    let r = fields_in a.p.now in
    omega (arith, attribute-length r a.c c.requires.c_value, c.requires.in_bounds)

pub to_text-at_parameters-requires : goal.to_text-at_parameters-requires
to_text-at_parameters-requires c =
    let a = c.args in
    let r = fields_in a.p.now in (
      c.requires.named,
      text-room r a.c (length a.p.now.addresses.now / c.address_width.result) c.requires.c_value (count a.p.now.addresses.now c.address_width.ensures)
          c.put16-at_count.ensures c.put8-at_nlen.ensures c.put8-at_addresses.ensures c.copy-at_name.ensures c.requires.in_bounds,
    )

pub copy-requires : goal.copy-requires
copy-requires c =
    let a = c.args in
    let r = fields_in a.p.now in
    after-text-room r a.c (length a.p.now.addresses.now / c.address_width.result) c.requires.c_value (count a.p.now.addresses.now c.address_width.ensures)
    c.put16-at_count.ensures c.put8-at_nlen.ensures c.put8-at_addresses.ensures c.copy-at_name.ensures c.to_text-at_parameters.ensures
    c.requires.in_bounds

pub returns : goal.returns
returns c =
    let a = c.args in
    let r = fields_in a.p.now in
    wrote-attribute r a.c (length a.p.now.addresses.now / c.address_width.result) c.requires.c_value (count a.p.now.addresses.now c.address_width.ensures)
    c.put16-at_count.ensures c.put8-at_nlen.ensures c.put8-at_addresses.ensures c.copy-at_name.ensures c.to_text-at_parameters.ensures c.copy.ensures
