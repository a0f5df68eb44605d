-- The laws of characters. Assumes nothing.
use Rattle.std.specs.Prelude.{◌≡◌, true, ℕ, ◌≤◌, leb}
use Rattle.std.proofs.Math.Bool.{and-eq-true_iff}
use Rattle.std.proofs.Common.{leb-true}
use Rattle.octets.specs.Numbers.{range}

pub range-true : (lo hi x : ℕ) → range lo hi x ≡ true → (lo ≤ x) × (x ≤ hi)
range-true lo hi x e = let q = (and-eq-true_iff (leb lo x) (leb x hi)).0 e in (leb-true _ _ q.0, leb-true _ _ q.1)
