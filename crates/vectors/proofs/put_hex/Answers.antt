-- `vectors::put_hex` meets its contract: its parts one after another. Assumes nothing.
use Rattle.std.proofs.Common.{sym, ◌∙◌}
use Rattle.chars.specs.PutsLaws.{puts_then}
use Rattle.vectors.proofs.put_hex.Goals as goal

pub returns : goal.returns
returns c = simp (sym c.is_empty.ensures ∙ c.if-is_empty.false) (puts_then c.put-next.ensures.puts c.put_octets.ensures.puts)
