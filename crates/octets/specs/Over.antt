-- What a write leaves in a lent buffer: octets laid over a list from an index on, and the rest as it was (RULES T7).
-- Assumes nothing: these are definitions.
use Rattle.std.specs.Prelude.{◌≡◌, List, ◌++◌, ℕ, ◌+◌, ◌≤◌, length, take, drop}

-- l, with bs in the place of what stood from index at on (RULES T7)
unfoldable pub over : ℕ → List ℕ → List ℕ → List ℕ
over at bs l = take at l ++ bs ++ drop (at + length bs) l

-- bs fit l from at, l' is l with bs laid over it there, and r is the index after them: what each function that writes ensures (RULES T7)
pub record Wrote (at : ℕ) (bs l : List ℕ) (r : ℕ) (l' : List ℕ) : Type 0 where
  pub room : at + length bs ≤ length l
  pub next : r ≡ at + length bs
  pub laid : l' ≡ over at bs l
