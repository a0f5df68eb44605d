-- What one block more adds to what blocks yield together. Assumes nothing.
use Rattle.std.specs.Prelude.{◌≡◌, refl, List, [], ◌∷◌, ◌++◌, ◌+◌, ◌≤◌, length}
use Rattle.std.proofs.Common.{sym, ap, ◌∙◌, append_assoc, append-nil, arith}
use Rattle.blocks.specs.Block.{Fields}
use Rattle.judge.specs.Place.{Judged}
use Rattle.reading.specs.Result.{Yield, discarded, yields, records_in, arrivals, discards, discarded_in, or_fault, first_fault}

pub arrivals-more : (ys : List Yield) (y : Yield) → arrivals (ys ++ (y ∷ [])) ≡ arrivals ys ++ records_in y
arrivals-more [] y = append-nil (records_in y)
arrivals-more (x ∷ ys) y = ap (λ (l : List Fields). records_in x ++ l) (arrivals-more ys y) ∙ sym (append_assoc (records_in x) (arrivals ys) (records_in y))

pub discarded-more : (ys : List Yield) (y : Yield) → discarded_in (ys ++ (y ∷ [])) ≡ discarded_in ys + discards y
discarded-more [] y = omega arith
discarded-more (x ∷ ys) y = omega (arith, discarded-more ys y)

discards-one : (y : Yield) → discards y ≤ 1
discards-one (discarded j) = omega arith
discards-one (yields rs) = omega arith

-- no more blocks are discarded than found
pub discarded-few : (ys : List Yield) → discarded_in ys ≤ length ys
discarded-few [] = omega arith
discarded-few (y ∷ ys) = omega (arith, discarded-few ys, discards-one y)

-- a block that is not discarded leaves the first fault
pub first-yields : (ys : List Yield) (rs : List Fields) → first_fault (ys ++ (yields rs ∷ [])) ≡ first_fault ys
first-yields [] rs = refl
first-yields (y ∷ ys) rs = ap (or_fault y) (first-yields ys rs)

-- the first discarded block gives it
pub first-discarded : (ys : List Yield) (j : Judged) → discarded_in ys ≡ 0 → first_fault (ys ++ (discarded j ∷ [])) ≡ j
first-discarded [] j h = refl
first-discarded (discarded i ∷ ys) j h = absurd (omega arith)
first-discarded (yields rs ∷ ys) j h = first-discarded ys j (omega arith)

-- and no later one changes it
pub first-stays : (ys : List Yield) (y : Yield) → (discarded_in ys ≡ 0 → ⊥) → first_fault (ys ++ (y ∷ [])) ≡ first_fault ys
first-stays [] y h = absurd (h refl)
first-stays (discarded j ∷ ys) y h = refl
first-stays (yields rs ∷ ys) y h = first-stays ys y (λ e. h (omega arith))
