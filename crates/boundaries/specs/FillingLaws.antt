-- A filled buffer is one that holds 165 at each index. Assumes nothing.
use Rattle.std.specs.Prelude.{◌≡◌, refl, true, ℕ, zero, suc, replicate}
use Rattle.boundaries.specs.Filling.{all_filled}

pub filled-whole : (n : ℕ) → all_filled (replicate n 165) ≡ true
filled-whole zero = refl
filled-whole (suc n) = filled-whole n
