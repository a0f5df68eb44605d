-- What a write leaves that stops where its buffer ends. Assumes nothing: this is a definition.
use Rattle.std.specs.Prelude.{◌≡◌, List, ℕ, ◌+◌, ◌-◌, min, length, take}
use Rattle.octets.specs.Over.{over}

-- l' is l with bs laid over it from `at` on, as far as there is room, and r is the index after what was written; past the end nothing is
-- written, and r is the end
pub record Puts (at : ℕ) (bs l : List ℕ) (r : ℕ) (l' : List ℕ) : Type 0 where
  pub next : r ≡ min (at + length bs) (length l)
  pub laid : l' ≡ over (min at (length l)) (take (length l - at) bs) l
