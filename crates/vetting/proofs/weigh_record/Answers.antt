-- `vetting::weigh_record` meets its contract: the judge's fault, or how many octets the record takes. Assumes nothing.
use Rattle.std.proofs.Common.{arith}
use Rattle.blocks.specs.Parts.{fields_in}
use Rattle.vetting.proofs.WeighingLaws.{light, place_inside, weighs-faulty, weighs-passed}
use Rattle.vetting.proofs.weigh_record.Goals as goal

pub back-requires : goal.back-requires
back-requires c =
    let r = c.args.r.now in
    omega (arith, place_inside c.args.c r.name (fields_in r.parts) _ c.in-Err.ensures, c.requires.within)

pub returns-in-Err : goal.returns-in-Err
returns-in-Err c =
    let r = c.args.r.now in
    weighs-faulty c.args.c r.name (fields_in r.parts) c.in-Err.w c.back.result c.in-Err.ensures c.back.ensures

pub of-requires : goal.of-requires
of-requires c =
    let r = c.args.r.now in
    let l = light c.args.c r.name (fields_in r.parts) c.requires.fits_record c.in_default.ensures in
    record { named = l.some; in_range = omega (arith, l) }

pub returns : goal.returns
returns c =
    let r = c.args.r.now in
    let o = c.of.ensures in
    let k = c.share_size-size.ensures in
    weighs-passed c.args.c r.name (fields_in r.parts) c.requires.fits_record c.in_default.ensures c.is_large.ensures
    (rw (o.full, o.name, o.addresses, o.parameters) at k)
