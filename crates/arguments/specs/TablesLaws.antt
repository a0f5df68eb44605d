-- How std compares words is as `arguments/Tables` does. Assumes nothing.
use Rattle.std.specs.Prelude.{◌≡◌, refl, Bool, true, false, List, [], ◌∷◌, ℕ, eqb, length, take}
use Rattle.std.specs.List.{starts_with}
use Rattle.std.specs.Cmp.Lexicographic.{pointwise}
use Rattle.std.proofs.Common.{sym, ◌∙◌, eqb-true, eq-eqb, ne_eqb}
use Rattle.std.proofs.lemmas.Bool.{eqb-false}
use Rattle.octets.specs.Lists.{same}
use Rattle.arguments.specs.Tables.{begins}

pub pointwise_same : (x y : List ℕ) → pointwise eqb x y ≡ same x y
unfolding same
pointwise_same [] [] = refl
pointwise_same [] (b ∷ ys) = refl
pointwise_same (a ∷ xs) [] = refl
pointwise_same (a ∷ xs) (b ∷ ys) = rw (pointwise_same xs ys) refl

eqb_sym : (a b : ℕ) → eqb a b ≡ eqb b a
eqb_sym a b = go (eqb a b) refl
  where
    go : (t : Bool) → eqb a b ≡ t → t ≡ eqb b a
    go true e = sym (eq-eqb b a (sym (eqb-true a b e)))
    go false e = sym (ne_eqb b a (λ q. eqb-false a b e (sym q)))

same_sym : (x y : List ℕ) → same x y ≡ same y x
unfolding same
same_sym [] [] = refl
same_sym [] (b ∷ ys) = refl
same_sym (a ∷ xs) [] = refl
same_sym (a ∷ xs) (b ∷ ys) = rw (eqb_sym a b, same_sym xs ys) refl

pub starts_begins : (x w : List ℕ) → starts_with eqb w x ≡ begins x w
starts_begins x w = pointwise_same x (take (length x) w) ∙ same_sym x (take (length x) w)
