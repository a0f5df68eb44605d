-- To show something of a test's answer, show it of each answer, with what the test then says. Assumes nothing.
use Rattle.std.specs.Prelude.{◌≡◌, refl, Bool, true, false, cond, ℕ, ◌≤◌, ◌<◌, ltb, eqb}
use Rattle.std.proofs.Common.{ltb-true, ltb-false, eqb-true}
use Rattle.std.proofs.lemmas.Bool.{eqb-false}

pub by-test : (b : Bool) (P : Bool → Type 0) → (b ≡ true → P true) → (b ≡ false → P false) → P b
by-test true P f g = f refl
by-test false P f g = g refl

-- of what a comparison decides between
module _ {A : Type 0} (P : A → Type 0) (m n : ℕ) (x y : A) where
  pub by_less : (m < n → P x) → (n ≤ m → P y) → P (cond (ltb m n) x y)
  by_less h k = by-test (ltb m n) (λ b. P (cond b x y)) (λ e. h (ltb-true _ _ e)) (λ e. k (ltb-false _ _ e))

  pub by_equal : (m ≡ n → P x) → ((m ≡ n → ⊥) → P y) → P (cond (eqb m n) x y)
  by_equal h k = by-test (eqb m n) (λ b. P (cond b x y)) (λ e. h (eqb-true _ _ e)) (λ e. k (eqb-false _ _ e))
