-- `vectors::answer_wire` meets its contract: what the check says decides. Assumes nothing.
use Rattle.std.proofs.Common.{sym, ◌∙◌}
use Rattle.names.specs.Exact.{good}
use Rattle.texts.specs.Texts.{text_of}
use Rattle.chars.specs.PutsLaws.{puts-as}
use Rattle.vectors.specs.AnswersLaws.{name-good, name-bad}
use Rattle.vectors.proofs.answer_wire.Goals as goal

pub put_text-requires : goal.put_text-requires
put_text-requires c =
    (good _).0 (sym c.check_wire.ensures.value ∙ c.in-Ok.is)

pub returns-in-Ok : goal.returns-in-Ok
returns-in-Ok c =
    puts-as (name-good (text_of c.args.wire.now) c.check_wire.ensures.value c.in-Ok.is) c.put_text.ensures

pub returns-in-Err : goal.returns-in-Err
returns-in-Err c =
    puts-as (name-bad (text_of c.args.wire.now) c.check_wire.ensures.value c.in-Err.is) c.put_bad.ensures
