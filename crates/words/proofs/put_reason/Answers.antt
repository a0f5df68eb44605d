-- `words::put_reason` meets its contract: the octets of its table are those of the definition's. Assumes nothing.
use Rattle.std.proofs.Common.{refl}
use Rattle.chars.specs.PutsLaws.{puts-as}
use Rattle.words.specs.Words.{reasons}
use Rattle.words.specs.Encoded.{encoded, plain, unbroken}
use Rattle.words.specs.EncodedLaws.{words-encoded}
use Rattle.words.proofs.put_reason.Goals as goal

pub returns : goal.returns
unfolding reasons encoded plain unbroken
returns c = puts-as (words-encoded reasons _ refl) c.put_found.ensures
