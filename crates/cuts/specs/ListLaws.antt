-- The first elements of a list: of their order and of what they are mapped to; and a search among the first numbers.
-- Assumes nothing.
use Rattle.std.specs.Prelude.{◌≡◌, refl, ◌⊎◌, Bool, true, false, List, [], ◌∷◌, map, ℕ, zero, suc, ◌<◌, eqb, take}
use Rattle.std.proofs.Common.{ap, ◌∙◌, inl, inr, arith, eqb-true}
use Rattle.std.proofs.lemmas.Bool.{eqb-false}
use Rattle.blocks.specs.Block.{Fields}
use Rattle.taking.specs.Sheet.{NoneFalls}

module _ {A : Type 0} where
  pub map-take : {B : Type 0} (f : A → B) (k : ℕ) (l : List A) → map f (take k l) ≡ take k (map f l)
  map-take f zero l = refl
  map-take f (suc k) [] = refl
  map-take {B} f (suc k) (x ∷ l) = ap (λ (m : List B). f x ∷ m) (map-take f k l)

pub rising-take : (least k : ℕ) (rs : List Fields) → NoneFalls least rs → NoneFalls least (take k rs)
rising-take least zero rs h = tt
rising-take least (suc k) [] h = tt
rising-take least (suc k) (r ∷ rs) h = (h.0, rising-take r.priority k rs h.1)

-- a number below m at which f is n, or none
pub search : (f : ℕ → ℕ) (n m : ℕ) → ((k : ℕ) × (k < m) × (n ≡ f k)) ⊎ ((k : ℕ) → k < m → n ≡ f k → ⊥)
search f n zero = inr (λ k h e. omega arith)
search f n (suc m) = go (eqb n (f m)) refl (search f n m)
  where
    go : (b : Bool) → eqb n (f m) ≡ b → ((k : ℕ) × (k < m) × (n ≡ f k)) ⊎ ((k : ℕ) → k < m → n ≡ f k → ⊥)
        → ((k : ℕ) × (k < suc m) × (n ≡ f k)) ⊎ ((k : ℕ) → k < suc m → n ≡ f k → ⊥)
    go true t before = inl (m, omega arith, eqb-true _ _ t)
    go false t (inl (k, h, e)) = inl (k, omega arith, e)
    go false t (inr none) = inr (λ k h e.
        let other : k ≡ m → ⊥ = λ q. eqb-false _ _ t (e ∙ ap f q) in
        none k (omega arith) e)
