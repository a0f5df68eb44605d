-- `writing::write_sheet` meets its contract: the tests in their order, and the octets. Assumes nothing.
use Rattle.std.proofs.Common.{arith}
use Rattle.octets.specs.NumbersLaws.{bytes-at}
use Rattle.octets.specs.Numbers.{Bytes}
use Rattle.answers.proofs.AnswersLaws.{writes_as, writes-refused, writes-written}
use Rattle.writing.specs.WritesLaws.{records-large, records-room, records-written, found-small, found-ready}
use Rattle.writing.proofs.write_sheet.Goals as goal

pub total_size-total-requires : goal.total_size-total-requires
total_size-total-requires c =
    let bytes : Bytes c.args.s.now = bytes-at c.args.s.now (λ i. omega (arith, c.type_inv.s i)) in
    found-small c.requires bytes

pub returns-then-v : goal.returns-then-v
returns-then-v c =
    writes-refused _ (records-large c.requires _ c.if-v.true) (rw c.number.ensures at c.refused.ensures)

pub returns-then-out-total : goal.returns-then-out-total
returns-then-out-total c =
    writes-refused _ (records-room c.requires _ c.if-v.false c.total_size-total.ensures c.if-out-total.true) (rw c.number-then-out-total.ensures at c.refused-then-out-total.ensures)

pub put_octets-length-requires : goal.put_octets-length-requires
put_octets-length-requires c =
    let bytes : Bytes c.args.s.now = bytes-at c.args.s.now (λ i. omega (arith, c.type_inv.s i)) in
    let f = c.requires in
    record { ready = found-ready f bytes c.if-v.false; measured = record { sizes = f.sizes; totals = c.total_size-total.ensures; fits = c.if-out-total.false } }

pub returns : goal.returns
returns c =
    writes_as (records-written c.requires _ c.if-v.false c.total_size-total.ensures c.if-out-total.false)
    (writes-written c.put_octets-length.ensures c.wrote.ensures)
