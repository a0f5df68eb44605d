-- `findings::examine` meets its contract, by the parts of the body. Assumes nothing.
use Rattle.findings.specs.ExaminedLaws.{trouble-laid, trouble-fields}
use Rattle.findings.proofs.examine.Goals as goal

pub returns-in-Ok : goal.returns-in-Ok
returns-in-Ok c = trouble-fields _ _ c.in-Ok.ensures.result_value c.examine_parts.ensures

pub returns-in-Err : goal.returns-in-Err
returns-in-Err c = trouble-laid _ _ c.in-Err.ensures.result_value c.laid_place.ensures c.plain.ensures
