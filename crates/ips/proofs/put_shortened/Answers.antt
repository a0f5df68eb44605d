-- `ips::put_shortened` meets its contract: all fields where no run is shortened, and those around it where one is. Assumes nothing.
use Rattle.std.proofs.Common.{refl, arith}
use Rattle.octets.specs.Numbers.{words}
use Rattle.octets.specs.NumbersLaws.{words-length}
use Rattle.ips.specs.Ips.{run}
use Rattle.ips.specs.Writes.{shortened-whole, shortened-around, within-fields}
use Rattle.ips.proofs.put_shortened.Goals as goal

pub put_around-requires-clause-a_len : goal.put_around-requires-clause-a_len
put_around-requires-clause-a_len c =
    let inside = within-fields (words c.args.a.now) c.in-Some.field-0 c.in-Some.ensures.value in
    (c.requires.a_len, omega (arith, words-length c.args.a.now))

pub put_around-requires-clause-a_in_bounds : goal.put_around-requires-clause-a_in_bounds
put_around-requires-clause-a_in_bounds c =
    let part = shortened-around (words c.args.a.now) c.in-Some.field-0 c.in-Some.ensures.value (λ z. omega (arith, c.in-Some.ensures.bounds)) in
    rw part at c.requires.a_in_bounds

pub put_fields-requires : goal.put_fields-requires
put_fields-requires c =
    rw (shortened-whole (words c.args.a.now) (run 0 0) c.in-None.ensures.value refl) at c.requires.a_in_bounds

pub returns-in-Some : goal.returns-in-Some
returns-in-Some c =
    rw (shortened-around (words c.args.a.now) c.in-Some.field-0 c.in-Some.ensures.value (λ z. omega (arith, c.in-Some.ensures.bounds))) c.put_around.ensures

pub returns-in-None : goal.returns-in-None
returns-in-None c =
    rw (shortened-whole (words c.args.a.now) (run 0 0) c.in-None.ensures.value refl) c.put_fields.ensures
