-- `lines::listed::put_key_part` meets its contract: the key, or nothing. Assumes nothing.
use Rattle.std.proofs.Common.{le-ltb, lt-ltb}
use Rattle.chars.specs.PutsLaws.{puts_none, puts_then}
use Rattle.lines.proofs.listed.put_key_part.Goals as goal

pub returns-then-key-ge-NONE : goal.returns-then-key-ge-NONE
returns-then-key-ge-NONE c = simp (le-ltb _ _ c.if-key-ge-NONE.true) (puts_none _ _ c.min.ensures)

pub returns : goal.returns
returns c =
    simp (lt-ltb _ _ c.if-key-ge-NONE.false) (puts_then c.put_all-from.ensures.puts c.put_key.ensures)
