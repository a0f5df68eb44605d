-- `reading::read` meets its contract: 1, 2, and then what the area of a known carrier answers. Assumes nothing.
use Rattle.std.proofs.Common.{sym, ◌∙◌}
use Rattle.reading.specs.AnswerLaws.{reads_as, reads-refused, read-unknown, read-long, read_known}
use Rattle.reading.proofs.read.Goals as goal

pub returns-in_default : goal.returns-in_default
returns-in_default c =
    reads-refused _ (read-unknown _ _ _ (sym c.of.ensures.value ∙ c.in_default.is)) c.refused.ensures

pub returns-then-area-gt-INPUT : goal.returns-then-area-gt-INPUT
returns-then-area-gt-INPUT c =
    reads-refused _ (read-long _ _ _ (sym c.of.ensures.value ∙ c.in-Some.is) c.if-area-gt-INPUT.true) c.refused-then-area-gt-INPUT.ensures

pub returns : goal.returns
returns c =
    reads_as (read_known _ _ _ (sym c.of.ensures.value ∙ c.in-Some.is) c.if-area-gt-INPUT.false) c.read_area.ensures
