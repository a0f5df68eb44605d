-- The theorems of the walk over a mandatory list and the parameters' keys, where these rise (RULES P4, P9): as many steps as the two have keys
-- together reach its answer; the answer is yes exactly if the list rises without 0 and each of its keys is a parameter's; and a step moves
-- past one key of each at most. Assumes nothing.
use Rattle.std.specs.Prelude.{◌≡◌, refl, Bool, true, false, cond, ◌&&◌, ◌↔◌, ◌⊎◌, List, [], ◌∷◌, ℕ, ◌+◌, ◌<◌, ltb, eqb, length}
use Rattle.std.proofs.Common.{sym, ap, ◌∙◌, true≢false, inl, inr, arith, eqb-true}
use Rattle.std.proofs.Math.Bool.{and-eq-true_iff}
use Rattle.svcparams.specs.Params.{rising, all_in}
use Rattle.svcparams.specs.Accepted.{Ascending}
use Rattle.svcparams.proofs.AcceptedLaws.{above-next, next-above, rising-means, means-rising, least_zero, all-each, each_all}
use Rattle.svcparams.specs.declared.walk.Decision.TheVariants.{Refused, Found, Passed}
use Rattle.svcparams.specs.Merge.{Listed, done, going, carried, step, steps, Ran}
use Rattle.svcparams.proofs.MergeLaws.{answered, merge-answers, ran-answer}

good-listed : (ks ws : List ℕ) → rising 1 ws && all_in ws ks ≡ true → Listed ks ws
good-listed ks ws e =
    let q = (and-eq-true_iff (rising 1 ws) (all_in ws ks)).0 e in
    let r = rising-means 1 ws q.0 in
    record { rise = r.1; nonzero = next-above 0 ws r.0; present = all-each ws ks q.1 }

listed-good : (ks ws : List ℕ) → Listed ks ws → rising 1 ws && all_in ws ks ≡ true
listed-good ks ws l = simp (means-rising 1 ws (above-next 0 ws l.nonzero) l.rise, each_all ws ks l.present)

-- a test and what it decides
decides : (ks ws : List ℕ) (b : Bool) → b ≡ rising 1 ws && all_in ws ks → ((b ≡ true) ↔ Listed ks ws) × ((b ≡ false) ↔ (Listed ks ws → ⊥))
decides ks ws b e =
    let yes : b ≡ true → Listed ks ws = λ y. good-listed ks ws (sym e ∙ y) in
    let good : Listed ks ws → b ≡ true = λ l. e ∙ listed-good ks ws l in
    ((yes, good), (λ y l. true≢false (sym (good l) ∙ y), no b yes))
  where
    no : (b : Bool) → (b ≡ true → Listed ks ws) → (Listed ks ws → ⊥) → b ≡ false
    no true f n = absurd (n (f refl))
    no false f n = refl

-- ---- the answer

module _ (ws ks : List ℕ) (rise : Ascending ks) (some : 0 < length ws) where
  rises : rising 0 ks ≡ true
  rises = means-rising 0 ks (least_zero ks) rise

  -- after as many steps as the two have keys together there is an answer, and it is yes exactly if the list is as it is to be
  pub walk-exactly : (b : Bool) × (steps (length ws + length ks) (going ws ks) ≡ done b) × ((b ≡ true) ↔ Listed ks ws) × ((b ≡ false) ↔ (Listed ks ws → ⊥))
  walk-exactly =
      let b : Bool = rising 1 ws && all_in ws ks in
      let d = decides ks ws b refl in
      (b, merge-answers ws ks rises some, d.0, d.1)

  -- the answer of the code's walk is yes exactly then
  pub ran-exactly : {b : Bool} {n : ℕ} → Ran ws ks b n → ((b ≡ true) ↔ Listed ks ws) × ((b ≡ false) ↔ (Listed ks ws → ⊥))
  ran-exactly {b} r = decides ks ws b (ran-answer ws ks rises some r)

-- a walk of two lists has one answer and one number of steps: the contract of the code's walk fixes both
pub ran-once : (ws ks : List ℕ) {b c : Bool} {n k : ℕ} → Ran ws ks b n → Ran ws ks c k → (b ≡ c) × (n ≡ k)
ran-once ws ks {b} {c} {n} {k} r s =
    let l = r.least k c s.ran in
    let m = s.least n b r.ran in
    let e : n ≡ k = omega arith in
    let q : done b ≡ done c = sym r.ran ∙ ap (λ (x : ℕ). steps x (going ws ks)) e ∙ s.ran in
    (cc, e)

-- ---- a step

-- a step without an answer moves past the parameters' next key, and past the list's next key where it is the same one
pub step-one : (ws ks vs ls : List ℕ) → step (going ws ks) ≡ going vs ls → (k : ℕ) × (ks ≡ k ∷ ls) × ((ws ≡ vs) ⊎ (ws ≡ k ∷ vs))
step-one [] ks vs ls e = absurd (answered e)
step-one (w ∷ ws) [] vs ls e = absurd (answered e)
step-one (w ∷ ws) (k ∷ ks) vs ls e = go (eqb w 0) (ltb w k) (eqb w k) refl e
  where
    go : (a b c : Bool) → eqb w k ≡ c → carried (cond a Refused (cond b Refused (cond c Found Passed))) (w ∷ ws) (k ∷ ks) ≡ going vs ls
        → (x : ℕ) × (k ∷ ks ≡ x ∷ ls) × ((w ∷ ws ≡ vs) ⊎ (w ∷ ws ≡ x ∷ vs))
    go true b c t e = absurd (answered e)
    go false true c t e = absurd (answered e)
    go false false true t e =
        let w' : w ≡ k = eqb-true _ _ t in
        let l : ws ≡ vs = cc in
        let r : ks ≡ ls = cc in
        (k, cc, inr cc)
    go false false false t e =
        let r : ks ≡ ls = cc in
        (k, cc, inl cc)
