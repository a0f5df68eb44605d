-- `command::perform_on` meets its contract: what decoding answers decides; the octets lie within their buffer. Assumes nothing.
use Rattle.std.proofs.Common.{ap, ◌≡◌, sym, ◌≤◌, min, arith, rules, length, length-take-le}
use Rattle.inputs.specs.Read.{read_in}
use Rattle.inputs.specs.ReadLaws.{unread-in}
use Rattle.command.specs.InputLaws.{takes-octets, takes-bad, takes-long}
use Rattle.command.proofs.perform_on.Goals as goal

pub slice_bounds-given-end : goal.slice_bounds-given-end
slice_bounds-given-end g c =
    let end_is : c.min-end.result ≡ min c.in-Ok.n (length c.decode.new.out) = omega (arith, c.min-end.ensures, c.decode.auto.out) in
    let short : c.min-end.result ≤ length c.decode.new.out = omega (arith, end_is) in
    omega (arith, short)

pub slice_bounds-perform-end : goal.slice_bounds-perform-end
slice_bounds-perform-end g c =
    let end_is : c.min-end.result ≡ min c.in-Ok.n (length c.decode.new.out) = omega (arith, c.min-end.ensures, c.decode.auto.out) in
    let short : c.min-end.result ≤ length c.decode.new.out = omega (arith, end_is) in
    sym (length-take-le _ _ short)

pub returns-in-Ok : goal.returns-in-Ok
returns-in-Ok g c =
    let end_is : c.min-end.result ≡ min c.in-Ok.n (length c.decode.new.out) = omega (arith, c.min-end.ensures, c.decode.auto.out) in
    let a = c.args in
    let answer = takes-octets a.a c.decode.ensures (ap read_in c.in-Ok.is) end_is in
    search (rules, answer)

pub returns-in-Err-Bad : goal.returns-in-Err-Bad
returns-in-Err-Bad g c =
    let a = c.args in
    let answer = takes-bad a.a c.decode.ensures (unread-in c.in-Err-Bad.is c.in-Err-Bad.field-0-is) in
    search (rules, answer)

pub returns-in-Err-Long : goal.returns-in-Err-Long
returns-in-Err-Long g c =
    let a = c.args in
    let answer = takes-long a.a c.decode.ensures (unread-in c.in-Err-Long.is c.in-Err-Long.field-0-is) in
    search (rules, answer)
