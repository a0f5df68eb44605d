-- How far the cutting of joined octets within a buffer has come. Assumes nothing: these are definitions.
use Rattle.std.specs.Prelude.{◌≡◌, List, ◌++◌, ℕ, ◌+◌, ◌-◌, ◌*◌, ◌/◌, ◌≤◌, length, take, drop}
use Rattle.octets.specs.Over.{Wrote}
use Rattle.pieces.specs.Pieces.{cut_of}

-- the n octets that stand in out₀ from `from` on are cut into options at its front, with i octets done: out is what stands there, and o
-- the index after the options
pub record Cutting (from n : ℕ) (out₀ : List ℕ) (i o : ℕ) (out : List ℕ) : Type 0 where
  pub passed : List ℕ  -- the options of the first i octets
  pub within : i ≤ n
  pub wrote : Wrote 0 passed out₀ o out
  pub whole : cut_of (take n (drop from out₀)) ≡ passed ++ cut_of (drop i (take n (drop from out₀)))
  pub room : o + 2 * ((n - i + 254) / 255) ≡ from + i  -- just the headers to come stand before the octets to come
  pub same : length out ≡ length out₀
