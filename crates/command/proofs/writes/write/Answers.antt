-- `command::writes::write` meets its contract: the octets that were written lie within their buffer, and the number decides. Assumes nothing.
use Rattle.std.proofs.Common.{sym, ◌≤◌, arith, rules, length, length-take-le}
use Rattle.answers.proofs.AnswersLaws.{writes-fits}
use Rattle.command.specs.NumbersLaws.{write-refused, write_done}
use Rattle.command.proofs.writes.write.Goals as goal

pub slice_bounds-octets-end : goal.slice_bounds-octets-end
slice_bounds-octets-end g c =
    let short : c.write-w.result.length ≤ length c.write-w.new.out = writes-fits _ c.write-w.ensures c.write-w.auto.out in
    omega (arith, short)

pub slice_bounds-give_octets-end : goal.slice_bounds-give_octets-end
slice_bounds-give_octets-end g c =
    let short : c.write-w.result.length ≤ length c.write-w.new.out = writes-fits _ c.write-w.ensures c.write-w.auto.out in
    sym (length-take-le _ _ short)

pub returns-then-w-ne0 : goal.returns-then-w-ne0
returns-then-w-ne0 g c =
    let a = c.args in
    let answer = write-refused a.sheet.now _ c.write-w.ensures (search rules) c.if-w-ne0.true in
    search (rules, answer)

pub returns : goal.returns
returns g c =
    let a = c.args in
    let answer = write_done a.sheet.now _ c.write-w.ensures (search rules) c.if-w-ne0.false in
    search (rules, answer)
