-- `vectors::put_decoded` meets its contract: the octets of the digits lie within their buffer, and what decoding says decides. Assumes nothing.
use Rattle.std.proofs.Common.{sym, ◌≤◌, arith, length, length-take, length-take-le, rules}
use Rattle.hexes.specs.DecodingLaws.{decoded-within}
use Rattle.chars.specs.PutsLaws.{puts-as}
use Rattle.vectors.specs.AnswersLaws.{decoded-octets, decoded-none}
use Rattle.vectors.proofs.put_decoded.Goals as goal

pub slice_bounds-octets-end : goal.slice_bounds-octets-end
slice_bounds-octets-end c =
    let short : c.in-Ok.n ≤ length c.decode.new.out = omega (arith, decoded-within c.decode.ensures c.in-Ok.is, c.decode.auto.out) in
    omega (arith, short)

pub slice_bounds-put_case-end : goal.slice_bounds-put_case-end
slice_bounds-put_case-end c =
    let short : c.in-Ok.n ≤ length c.decode.new.out = omega (arith, decoded-within c.decode.ensures c.in-Ok.is, c.decode.auto.out) in
    sym (length-take-le _ _ short)

pub put_case-requires : goal.put_case-requires
put_case-requires c = simp length-take (omega arith)

pub returns-in-Ok : goal.returns-in-Ok
returns-in-Ok c =
    let a = c.args in
    puts-as (decoded-octets a.letter a.digits.now c.decode.ensures (search rules) c.in-Ok.is) c.put_case.ensures

pub returns-in-Err : goal.returns-in-Err
returns-in-Err c =
    let a = c.args in
    puts-as (decoded-none a.letter a.digits.now c.decode.ensures (search rules) c.in-Err.is) c.put.ensures.puts
