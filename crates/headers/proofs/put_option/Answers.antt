-- `headers::put_option` meets its contract: the header, the value and the zeros after it. Assumes nothing.
use Rattle.std.proofs.Common.{arith, subst, ℕ, ◌+◌, length}
use Rattle.carriers.specs.Carriers.{head_width, header_of, in_eights}
use Rattle.frames.specs.Emit.{CanSay}
use Rattle.frames.proofs.EmitLaws.{option-length, head-length}
use Rattle.headers.specs.Headers.{padded_of}
use Rattle.headers.specs.HeadersLaws.{most-few, padded-length, padded-fits, option-wrote}
use Rattle.headers.proofs.put_option.Goals as goal

pub gap-zeros-requires : goal.gap-zeros-requires
gap-zeros-requires c =
    omega (arith, c.requires.c_value.1, most-few c.args.c)

pub put_header-body-requires : goal.put_header-body-requires
put_header-body-requires c =
    let a = c.args in
    let v = a.value.now in
    let n = padded-length a.c v in
    let o = option-length a.c (padded_of a.c v) in record {
      c_in_bounds = omega (arith, c.requires.value_in_bounds, n, o);
      can_say = subst (λ (n : ℕ). CanSay (in_eights a.c) (header_of a.c) (head_width a.c) n) (omega (arith, n, c.gap-zeros.ensures.0))
          (padded-fits a.c v c.requires.c_value.0 c.requires.c_value.1);
    }

pub copy-end-requires : goal.copy-end-requires
copy-end-requires c =
    let a = c.args in
    let v = a.value.now in
    omega (
      arith,
      c.requires.value_in_bounds,
      c.put_header-body.ensures.next,
      head-length a.c (length v + c.gap-zeros.result),
      padded-length a.c v,
      option-length a.c (padded_of a.c v),
    )

pub put_zeros-requires : goal.put_zeros-requires
put_zeros-requires c =
    let a = c.args in
    let v = a.value.now in (
      omega (
        arith,
        c.requires.value_in_bounds,
        c.gap-zeros.ensures.0,
        c.copy-end.ensures.next,
        c.put_header-body.ensures.next,
        head-length a.c (length v + c.gap-zeros.result),
        padded-length a.c v,
        option-length a.c (padded_of a.c v),
      ),
      c.gap-zeros.ensures.1,
    )

pub returns : goal.returns
returns c =
    let a = c.args in
    option-wrote a.c a.value.now c.gap-zeros.ensures.0 c.put_header-body.ensures c.copy-end.ensures c.put_zeros.ensures
