-- `reading::discard_joined` meets its contract: one block found and discarded, and nothing held. Assumes nothing.
use Rattle.std.proofs.Common.{sym}
use Rattle.reading.specs.TallyLaws.{holds-new, holds-ready, shows-joined-discarded}
use Rattle.reading.specs.AnswerLaws.{reads_as, answer-yields}
use Rattle.reading.proofs.discard_joined.Goals as goal

pub settle-requires : goal.settle-requires
settle-requires c = holds-ready (holds-new _ _ c.new.ensures.none c.new.ensures.value)

pub returns : goal.returns
returns c =
    reads_as (sym (answer-yields _ _ _ (shows-joined-discarded _ (holds-new _ _ c.new.ensures.none c.new.ensures.value) c.requires))) c.settle.ensures
