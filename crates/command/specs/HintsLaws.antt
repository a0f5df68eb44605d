-- The laws of looking for another carrier, one for each turn of the code. Assumes nothing.
use Rattle.std.specs.Prelude.{◌≡◌, refl, true, false, List, ℕ, zero, suc, ◌+◌, ◌-◌, ◌≤◌, ◌<◌, ltb}
use Rattle.std.proofs.Common.{ap, arith, eq-eqb, ne_eqb}
use Rattle.carriers.specs.Carriers.{chosen_of}
use Rattle.carriers.specs.Told.{carrier_in}
use Rattle.command.specs.Hints.{finds_in, suits_in, hint_from}

module _ (carrier : ℕ) (area : List ℕ) (k : ℕ) where
  pub suits-own : k ≡ carrier → false ≡ suits_in k carrier area
  suits-own e = rw (eq-eqb k carrier e)

  pub suits-other : (k ≡ carrier → ⊥) → finds_in k area ≡ suits_in k carrier area
  suits-other n = rw (ne_eqb k carrier n)

  next : k < 6 → 6 - k ≡ suc (6 - (k + 1))
  next h = omega arith

  pub hint-here : k < 6 → suits_in k carrier area ≡ true → k ≡ hint_from (6 - k) k carrier area
  unfolding hint_from
  hint-here h s = rw (next h, s)

  pub hint-other : k < 6 → suits_in k carrier area ≡ false → hint_from (6 - (k + 1)) (k + 1) carrier area ≡ hint_from (6 - k) k carrier area
  unfolding hint_from
  hint-other h s = rw (next h, s)

pub hint-none : (carrier : ℕ) (area : List ℕ) (k : ℕ) → 6 ≤ k → 0 ≡ hint_from (6 - k) k carrier area
unfolding hint_from
hint-none carrier area k h = let e : 6 - k ≡ 0 = omega arith in rw e

-- the carrier of such a number
pub hint-carrier : (k : ℕ) → 0 < k → k < 6 → carrier_in (chosen_of k) ≡ k
unfolding chosen_of
hint-carrier zero h l = absurd (omega arith)
hint-carrier (suc zero) h l = refl
hint-carrier (suc (suc zero)) h l = refl
hint-carrier (suc (suc (suc zero))) h l = refl
hint-carrier (suc (suc (suc (suc zero)))) h l = refl
hint-carrier (suc (suc (suc (suc (suc zero))))) h l = refl
hint-carrier (suc (suc (suc (suc (suc (suc k)))))) h l = absurd (omega arith)
