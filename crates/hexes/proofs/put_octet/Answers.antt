-- `hexes::put_octet` meets its contract: one digit after the other. Assumes nothing.
use Rattle.std.proofs.Common.{ap₂, [], ◌∷◌, ℕ}
use Rattle.chars.specs.PutsLaws.{puts_then, puts-as}
use Rattle.hexes.proofs.put_octet.Goals as goal

pub returns : goal.returns
returns c =
    let digits = ap₂ (λ (x y : ℕ). x ∷ y ∷ []) c.digit_of.ensures c.digit_of-2.ensures in
    record { prefix_len = c.put.ensures.prefix_len; puts = puts-as digits (puts_then c.put-next.ensures.puts c.put.ensures.puts) }
