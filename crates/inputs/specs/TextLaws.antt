-- A text with a line break after its last character, taken one character after the other. Assumes nothing.
use Rattle.std.specs.Prelude.{◌≡◌, refl, List, [], ◌∷◌, ◌++◌, ℕ, zero, suc, ◌+◌, ◌≤◌, ◌<◌, length, get_or, drop}
use Rattle.std.proofs.Common.{ap, ◌∙◌, add-one, arith, length-append, drop_of_length-le, drop-cons}

-- the character at i, a line break past the last
closed_at : (t : List ℕ) (i : ℕ) → get_or (t ++ (10 ∷ [])) i 10 ≡ get_or t i 10
closed_at [] zero = refl
closed_at [] (suc i) = refl
closed_at (x ∷ t) zero = refl
closed_at (x ∷ t) (suc i) = closed_at t i

module _ (t : List ℕ) (i : ℕ) where
  pub closed-cons : i ≤ length t → drop i (t ++ (10 ∷ [])) ≡ get_or t i 10 ∷ drop (i + 1) (t ++ (10 ∷ []))
  closed-cons h =
      let l : i < length (t ++ (10 ∷ [])) = rw (length-append t (10 ∷ [])) (omega arith) in
      rw (add-one i) (drop-cons (t ++ (10 ∷ [])) i 10 l ∙ ap (λ (x : ℕ). x ∷ drop (suc i) (t ++ (10 ∷ []))) (closed_at t i))

  pub closed-end : length t < i → drop i (t ++ (10 ∷ [])) ≡ []
  closed-end h = drop_of_length-le (t ++ (10 ∷ [])) {i = i} (rw (length-append t (10 ∷ [])) (omega arith))
