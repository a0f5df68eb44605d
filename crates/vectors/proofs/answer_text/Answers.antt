-- `vectors::answer_text` meets its contract: what the check says decides. Assumes nothing.
use Rattle.std.proofs.Common.{sym, ◌∙◌}
use Rattle.texts.specs.Exact.{good}
use Rattle.texts.specs.Texts.{wire_of}
use Rattle.chars.specs.PutsLaws.{puts-as}
use Rattle.vectors.specs.AnswersLaws.{name-good, name-bad}
use Rattle.vectors.proofs.answer_text.Goals as goal

pub put_wire-requires : goal.put_wire-requires
put_wire-requires c =
    (good _).0 (sym c.check_text.ensures.value ∙ c.in-Ok.is)

pub returns-in-Ok : goal.returns-in-Ok
returns-in-Ok c =
    puts-as (name-good (wire_of c.args.text.now) c.check_text.ensures.value c.in-Ok.is) c.put_wire.ensures

pub returns-in-Err : goal.returns-in-Err
returns-in-Err c =
    puts-as (name-bad (wire_of c.args.text.now) c.check_text.ensures.value c.in-Err.is) c.put_bad.ensures
