-- `dnr::dnr_words` meets its contract: the words are written as far as there is room, and then their closing octet. Assumes nothing.
use Rattle.std.proofs.Common.{arith}
use Rattle.words.proofs.StringsLaws.{string-none, string-closed}
use Rattle.dnr.proofs.dnr_words.Goals as goal

pub returns-then-text-eq0 : goal.returns-then-text-eq0
returns-then-text-eq0 c = string-none _ _ c.if-text-eq0.true

pub returns : goal.returns
returns c =
    let p = c.put_words-written in
    string-closed _ _ (omega arith) p.ensures c.min-end.ensures
