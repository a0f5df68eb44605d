-- `past_padding` finds the first octet that padding cannot have. Assumes nothing.
use Rattle.std.specs.Prelude.{◌≡◌, refl, Bool, true, false, cond, ◌&&◌, ◌⊎◌, List, [], ◌∷◌, ◌++◌, ℕ, suc, ◌+◌, ◌-◌, ◌≤◌, ◌<◌, ltb, eqb, length, get_or, take}
use Rattle.std.proofs.Common.{ap, ◌∙◌, subst, inl, inr, ⊎_elim, add-one, arith, lt-ltb, le-ltb, ltb-true, ltb-false, eqb-true, take_all, take-suc, length-take-le}
use Rattle.std.proofs.Math.Bool.{and-false, and-eq-true_iff}
use Rattle.std.proofs.lemmas.Bool.{eqb-false}
use Rattle.octets.specs.Cases.{by-test}
use Rattle.octets.specs.Lists.{All}
use Rattle.octets.specs.ListsLaws.{all_right}
use Rattle.octets.specs.Numbers.{all_zero}
use Rattle.octets.specs.NumbersLaws.{zero-exactly}
use Rattle.blocks.specs.Parse.{is_padding}
use Rattle.blocks.specs.Holding.{Padding}
use Rattle.findings.specs.Troubles.{past_padding}
use Rattle.findings.specs.Told.{FirstUnpadded}

-- after n octets of padding, u - n octets of l are zeros, and the one after them is none or is too much
record Found (n : ℕ) (l : List ℕ) (u : ℕ) : Type 0 where
  pub least : n ≤ u
  pub most : u < 8
  pub within : u - n ≤ length l
  pub zeros : All (λ x. x ≡ 0) (take (u - n) l)
  pub ends : u - n < length l → (u ≡ 7) ⊎ (get_or l (u - n) 0 ≡ 0 → ⊥)

found_here : (n : ℕ) (l : List ℕ) → n < 8 → (0 < length l → (n ≡ 7) ⊎ (get_or l 0 0 ≡ 0 → ⊥)) → Found n l n
found_here n l h e =
    let none : n - n ≡ 0 = omega arith in
    record {
      least = omega arith;
      most = h;
      within = omega arith;
      zeros = rw none tt;
      ends = rw none e;
    }

found-later : (n x u : ℕ) (xs : List ℕ) → x ≡ 0 → Found (n + 1) xs u → Found n (x ∷ xs) u
found-later n x u xs z f =
    let one : u - n ≡ suc (u - (n + 1)) = omega (arith, f.least) in
    record {
      least = omega (arith, f.least);
      most = f.most;
      within = omega (arith, f.least, f.within);
      zeros = rw one (z, f.zeros);
      ends = rw one (λ h. f.ends (omega arith));
    }

found : (n : ℕ) (l : List ℕ) → n < 8 → Found n l (past_padding n l)
unfolding past_padding
found n [] h = found_here n [] h (λ k. absurd (omega arith))
found n (x ∷ xs) h = go (λ (k : n + 1 < 8). found (n + 1) xs k) (eqb x 0) (ltb n 7) refl refl
  where
    go : (n + 1 < 8 → Found (n + 1) xs (past_padding (n + 1) xs)) → (a b : Bool) → eqb x 0 ≡ a → ltb n 7 ≡ b
        → Found n (x ∷ xs) (cond (a && b) (past_padding (n + 1) xs) n)
    go ih true true z k = let less : n < 7 = ltb-true _ _ k in found-later n x (past_padding (n + 1) xs) xs (eqb-true _ _ z) (ih (omega arith))
    go ih true false z k = let more : 7 ≤ n = ltb-false _ _ k in found_here n (x ∷ xs) h (λ _. inl (omega arith))
    go ih false b z k = found_here n (x ∷ xs) h (λ _. inr (eqb-false _ _ z))

-- ---- so it is the first

few-zeros : (l : List ℕ) → length l < 8 → All (λ x. x ≡ 0) l → is_padding l ≡ true
unfolding is_padding
few-zeros l h z = (and-eq-true_iff (ltb (length l) 8) (all_zero l)).1 (lt-ltb _ _ h, (zero-exactly l).1 z)

many-none : (l : List ℕ) → 8 ≤ length l → is_padding l ≡ false
unfolding is_padding
many-none l h = simp (le-ltb _ _ h)

other_none : (l : List ℕ) → (All (λ x. x ≡ 0) l → ⊥) → is_padding l ≡ false
unfolding is_padding
other_none l n =
    by-test (all_zero l) (λ z. ltb (length l) 8 && z ≡ false) (λ z. absurd (n ((zero-exactly l).0 z))) (λ _. and-false (ltb (length l) 8))

pub first-unpadded : (l : List ℕ) → (Padding l → ⊥) → FirstUnpadded l (past_padding 0 l)
first-unpadded l n = go (past_padding 0 l) (found 0 l (omega arith))
  where
    go : (k : ℕ) → Found 0 l k → FirstUnpadded l k
    go k f =
        let all : k - 0 ≡ k = omega arith in
        let zeros : All (λ x. x ≡ 0) (take k l) = rw all at f.zeros in
        let less : k < length l = by-test (ltb k (length l)) (λ _. k < length l) (λ t. ltb-true _ _ t) (λ t.
        let h : length l ≤ k = ltb-false _ _ t in
        absurd (n (omega (arith, f.most, h), subst (All (λ x. x ≡ 0)) (take_all k l h) zeros))) in
        let next : take (k + 1) l ≡ take k l ++ (get_or l k 0 ∷ []) = ap (λ (i : ℕ). take i l) (add-one k) ∙ take-suc l k 0 less in
        let size : length (take (k + 1) l) ≡ k + 1 = length-take-le (k + 1) l (omega arith) in
        record {
          within = less;
          padding = few-zeros (take k l) (omega (arith, f.most, length-take-le k l (omega arith))) zeros;
          ends = ⊎_elim
              (λ e. many-none (take (k + 1) l) (omega arith))
              (λ e. other_none (take (k + 1) l) (λ z.
              e (all_right (λ x. x ≡ 0) (take k l) (get_or l k 0 ∷ []) (subst (All (λ x. x ≡ 0)) next z)).0))
              (subst (λ (i : ℕ). i < length l → (k ≡ 7) ⊎ (get_or l i 0 ≡ 0 → ⊥)) all f.ends less);
        }
