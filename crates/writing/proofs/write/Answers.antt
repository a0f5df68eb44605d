-- `writing::write` meets its contract: the sheet is refused as it is vetted, or 44, 5 and its octets decide. Assumes nothing.
use Rattle.answers.proofs.AnswersLaws.{writes_as, writes-refused}
use Rattle.writing.specs.WritesLaws.{write-refused, write-vetted}
use Rattle.writing.proofs.write.Goals as goal

pub write_sheet-requires : goal.write_sheet-requires
write_sheet-requires c = (write-vetted c.args.s.now 0 c.in-Ok.ensures).0

pub returns-in-Err : goal.returns-in-Err
returns-in-Err c =
    writes-refused _ (write-refused c.args.s.now _ c.in-Err.ensures) (rw (c.number.ensures, c.place.ensures) at c.refused.ensures)

pub returns-in-Ok : goal.returns-in-Ok
returns-in-Ok c = writes_as (write-vetted c.args.s.now _ c.in-Ok.ensures).1 c.write_sheet.ensures
