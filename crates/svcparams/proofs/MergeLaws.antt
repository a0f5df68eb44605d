-- The laws of the walk over a mandatory list and the parameters' keys: each decision keeps the answer of the rule, and so the steps get to it.
-- Assumes nothing.
use Rattle.std.specs.Prelude.{◌≡◌, refl, Bool, true, false, cond, ◌&&◌, List, [], ◌∷◌, ℕ, zero, suc, ◌+◌, ◌≤◌, ◌<◌, ltb, leb, eqb, length}
use Rattle.std.proofs.Common.{sym, ◌∙◌, le_of_suc-le-suc, not-suc-le-zero}
use Rattle.std.proofs.Math.Path.{ap}
use Rattle.std.proofs.Math.Bool.{and-false, and-eq-true_iff}
use native.Mathlib.Omega.{arith}
use borrow.Author.Tests.{le-leb, lt-leb, eq-eqb, ne_eqb, leb-true, ltb-true, ltb-false, eqb-true, eqb-false}
use Rattle.svcparams.specs.declared.walk.Decision.TheVariants.{Refused, Found, Passed}
use Rattle.svcparams.specs.Params.{rising, has, all_in}
use Rattle.svcparams.specs.Merge.{State, done, going, carried, step, steps, Ran}

-- ---- keys that rise

-- the parts of a rising list
pub rising-parts : (least k : ℕ) (ks : List ℕ) → rising least (k ∷ ks) ≡ true → (least ≤ k) × (rising (k + 1) ks ≡ true)
unfolding rising
rising-parts least k ks e =
    let q = (and-eq-true_iff (leb least k) (rising (k + 1) ks)).0 e in
    (leb-true _ _ q.0, q.1)

-- a key below all of them is not among them
pub low-absent : (w least : ℕ) (ks : List ℕ) → w < least → rising least ks ≡ true → has w ks ≡ false
unfolding has
low-absent w least [] h e = refl
low-absent w least (k ∷ ks) h e =
    let q = rising-parts least k ks e in
    let l = q.0 in
    simp (ne_eqb k w (λ y. omega arith), low-absent w (k + 1) ks (omega arith) q.1)

-- a key below all that are sought is not needed
low-unsought : (k least : ℕ) (ws ks : List ℕ) → k < least → rising least ws ≡ true → all_in ws (k ∷ ks) ≡ all_in ws ks
unfolding all_in has
low-unsought k least [] ks h e = refl
low-unsought k least (w ∷ ws) ks h e =
    let q = rising-parts least w ws e in
    let l = q.0 in
    simp (ne_eqb k w (λ y. omega arith), low-unsought k (w + 1) ws ks (omega arith) q.1)

-- and so whether they rise and are there is the same without it
low-dropped : (k least : ℕ) (ws ks : List ℕ) → k < least → rising least ws && all_in ws (k ∷ ks) ≡ rising least ws && all_in ws ks
low-dropped k least ws ks h = go (rising least ws) refl
  where
    go : (b : Bool) → rising least ws ≡ b → b && all_in ws (k ∷ ks) ≡ b && all_in ws ks
    go true e = low-unsought k least ws ks h e
    go false e = refl

-- ---- each decision keeps the answer

-- of a list and parameters of which the next keys are w and k: the list's keys are to be `floor` at least, the parameters' are `least` at least,
-- and `floor` is at most the larger of 1 and `least`
module _ (floor least w : ℕ) (ws : List ℕ) (k : ℕ) (ks : List ℕ) where
  abbrev Answer : Bool
  Answer = rising floor (w ∷ ws) && all_in (w ∷ ws) (k ∷ ks)

  zero-refused : 1 ≤ floor → w ≡ 0 → Answer ≡ false
  unfolding rising
  zero-refused h e = let g : w < floor = omega arith in simp (lt-leb _ _ g)

  absent : w < k → rising (k + 1) ks ≡ true → Answer ≡ false
  unfolding all_in has
  absent h e = simp (ne_eqb k w (λ y. omega arith), low-absent w (k + 1) ks (omega arith) e, and-false)

  module _ (above : (x : ℕ) → 1 ≤ x → least ≤ x → floor ≤ x) (some : w ≡ 0 → ⊥) (h : least ≤ k) where
    found : w ≡ k → Answer ≡ rising (k + 1) ws && all_in ws ks
    unfolding rising all_in has
    found e =
        let g : floor ≤ w = above w (omega (arith, some)) (omega arith) in
        (simp (le-leb _ _ g, eq-eqb k w (sym e)))
        ∙ ap (λ (x : ℕ). rising (x + 1) ws && all_in ws (k ∷ ks)) e
        ∙ low-dropped k (k + 1) ws ks (omega arith)

    passed : k < w → Answer ≡ rising (k + 1) (w ∷ ws) && all_in (w ∷ ws) ks
    unfolding rising
    passed l =
        let a : floor ≤ w = above w (omega (arith, some)) (omega arith) in
        let b : k + 1 ≤ w = omega arith in
        let e : rising floor (w ∷ ws) ≡ rising (k + 1) (w ∷ ws) = simp (le-leb _ _ a, le-leb _ _ b) in
        ap (λ (x : Bool). x && all_in (w ∷ ws) (k ∷ ks)) e ∙ low-dropped k (k + 1) (w ∷ ws) ks (omega arith)

-- ---- steps

pub answered : {b : Bool} {ws ks : List ℕ} → done b ≡ going ws ks → ⊥
answered e = let z : ◌≡◌ {A = ℕ} 0 1 = cc in absurd (omega arith)

steps-done : (n : ℕ) (b : Bool) → steps n (done b) ≡ done b
unfolding steps
steps-done zero b = refl
steps-done (suc n) b = steps-done n b

-- one step for each parameter, and one more, are enough
enough : (floor least : ℕ) (ks ws : List ℕ) (n : ℕ) → 1 ≤ floor → ((x : ℕ) → 1 ≤ x → least ≤ x → floor ≤ x) → length ks < n → rising least ks ≡ true
    → steps n (going ws ks) ≡ done (rising floor ws && all_in ws ks)
unfolding steps rising all_in has
enough floor least ks ws zero f a h e = absurd (not-suc-le-zero h)
enough floor least [] [] (suc n) f a h e = steps-done n true
enough floor least (k ∷ ks) [] (suc n) f a h e = steps-done n true
enough floor least [] (w ∷ ws) (suc n) f a h e = steps-done n false ∙ ap done (sym (and-false (rising floor (w ∷ ws))))
enough floor least (k ∷ ks) (w ∷ ws) (suc n) f a h e =
    go (rising-parts least k ks e) (eqb w 0) (ltb w k) (eqb w k) refl refl refl
    (λ vs r. enough (k + 1) (k + 1) ks vs n (omega arith) (λ x y z. z) (le_of_suc-le-suc h) r)
  where
    go : (least ≤ k) × (rising (k + 1) ks ≡ true) → (b c d : Bool) → eqb w 0 ≡ b → ltb w k ≡ c → eqb w k ≡ d
        → ((vs : List ℕ) → rising (k + 1) ks ≡ true → steps n (going vs ks) ≡ done (rising (k + 1) vs && all_in vs ks))
        → steps n (carried (cond b Refused (cond c Refused (cond d Found Passed))) (w ∷ ws) (k ∷ ks))
        ≡ done (rising floor (w ∷ ws) && all_in (w ∷ ws) (k ∷ ks))
    go q true c d r s t ih = steps-done n false ∙ ap done (sym (zero-refused floor least w ws k ks f (eqb-true _ _ r)))
    go q false true d r s t ih = steps-done n false ∙ ap done (sym (absent floor least w ws k ks (ltb-true _ _ s) q.1))
    go q false false true r s t ih =
        ih ws q.1 ∙ ap done (sym (found floor least w ws k ks a (eqb-false _ _ r) q.0 (eqb-true _ _ t)))
    go q false false false r s t ih =
        let l : k ≤ w = ltb-false _ _ s in
        let z : w ≡ k → ⊥ = eqb-false _ _ t in
        ih (w ∷ ws) q.1 ∙ ap done (sym (passed floor least w ws k ks a (eqb-false _ _ r) q.0 (omega (arith, z))))

-- an answer stays
pub steps-more : (n k : ℕ) (w : State) {b : Bool} → steps n w ≡ done b → n ≤ k → steps k w ≡ done b
unfolding steps
steps-more zero k w e h = ap (steps k) e ∙ steps-done k _
steps-more (suc n) zero w e h = absurd (not-suc-le-zero h)
steps-more (suc n) (suc k) w e h = steps-more n k (step w) e (le_of_suc-le-suc h)

pub steps_next : (n : ℕ) (w : State) → steps (n + 1) w ≡ step (steps n w)
unfolding steps
steps_next zero w = refl
steps_next (suc n) w =
    let e : suc n + 1 ≡ suc (n + 1) = omega arith in
    ap (λ (k : ℕ). steps k w) e ∙ steps_next n (step w)

-- ---- the answer, of a list with a key

module _ (ws ks : List ℕ) (o : rising 0 ks ≡ true) (some : 0 < length ws) where
  pub merge-answers : steps (length ws + length ks) (going ws ks) ≡ done (rising 1 ws && all_in ws ks)
  merge-answers = enough 1 0 ks ws (length ws + length ks) (omega arith) (λ x y z. y) (omega arith) o

  pub ran-answer : {b : Bool} {n : ℕ} → Ran ws ks b n → b ≡ rising 1 ws && all_in ws ks
  ran-answer {b} {n} r =
      let e = steps-more n (length ws + length ks) (going ws ks) r.ran r.few in
      let f = merge-answers in
      cc
