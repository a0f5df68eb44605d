-- The spots of an area by the steps of the walk. Assumes nothing.
use Rattle.std.specs.Prelude.{◌≡◌, refl, Bool, true, false, cond, List, [], ◌∷◌, ℕ, zero, suc, ◌+◌, ◌-◌, ◌≤◌, ◌<◌, ltb, leb, length, drop, Result, Ok, Err}
use Rattle.std.proofs.Common.{sym, ap, ◌∙◌, subst, add-zero, arith, ltb-true, ltb-false, leb-true, length-drop, drop_of_length-le, drop-drop}
use Rattle.std.proofs.Math.Path.{subst⁻¹}
use Rattle.numbers.specs.declared.Refusal.{Refusal}
use Rattle.numbers.specs.declared.Refusal.TheVariants.{Framing}
use Rattle.carriers.specs.declared.Carrier.{Carrier}
use Rattle.carriers.specs.Carriers.{header_of}
use Rattle.frames.specs.declared.Head.{Head}
use Rattle.frames.specs.declared.Step.{Step}
use Rattle.frames.specs.Frame.{first_of}
use Rattle.frames.specs.Step.{option_at, head_at, step_at}
use Rattle.frames.specs.HeadLaws.{first_pos}
use Rattle.frames.specs.Laws.{step-at-end, step_past, step-first, step-skipped, step_block}
use Rattle.findings.specs.Spots as spots
use Rattle.findings.specs.Spots.{Spot, after, spots_from}

abbrev pub spot : ℕ → ℕ → Spot
spot start end = record { start = start; end = end }

-- octets to be skipped are skipped, where they are there
spots-skip : (c : Carrier) (k at : ℕ) (l : List ℕ) → k ≤ length l → spots_from c k at l ≡ spots_from c 0 (at + k) (drop k l)
unfolding spots_from
spots-skip c zero at l h = ap (λ (n : ℕ). spots_from c 0 n l) (sym (add-zero at))
spots-skip c (suc k) at [] h = absurd (omega arith)
spots-skip c (suc k) at (x ∷ xs) h =
    let e : at + 1 + k ≡ at + suc k = omega arith in
    spots-skip c k (at + 1) xs (omega arith) ∙ ap (λ (n : ℕ). spots_from c 0 n (drop k xs)) e

spots-none : (c : Carrier) (at : ℕ) → spots_from c 0 at [] ≡ []
unfolding spots_from
spots-none c at = refl

-- what the header that stands first leaves to do
abbrev Ahead : Carrier → ℕ → List ℕ → Result Head Refusal → List Spot
Ahead c at l (Err _) = []
Ahead c at l (Ok Head.End) = []
Ahead c at l (Ok (Head.Option own size)) = cond (leb size.0 (length l)) (spots.onto c at size.0 own (spots_from c 0 (at + size.0) (drop size.0 l))) []

spots-first : (c : Carrier) (at : ℕ) (l : List ℕ) → 0 < length l → spots_from c 0 at l ≡ Ahead c at l (first_of c l)
unfolding spots_from
spots-first c at [] h = absurd (omega arith)
spots-first c at (x ∷ xs) h = go (first_of c (x ∷ xs)) refl
  where
    fits : (own : Bool) (n : ℕ) → 0 < n → n ≤ length (x ∷ xs) → spots_from c (n - 1) (at + 1) xs ≡ spots_from c 0 (at + n) (drop n (x ∷ xs))
    fits own zero p k = absurd (omega arith)
    fits own (suc n) p k =
        let same : suc n - 1 ≡ n = omega arith in
        let sum : at + 1 + n ≡ at + suc n = omega arith in
        ap (λ (i : ℕ). spots_from c i (at + 1) xs) same
        ∙ spots-skip c n (at + 1) xs (omega arith)
        ∙ ap (λ (i : ℕ). spots_from c 0 i (drop n xs)) sum

    by_size : (own : Bool) (n : ℕ) (b : Bool) → leb n (length (x ∷ xs)) ≡ b → 0 < n
        → cond b (spots.onto c at n own (spots_from c (n - 1) (at + 1) xs)) [] ≡ cond b (spots.onto c at n own (spots_from c 0 (at + n) (drop n (x ∷ xs)))) []
    by_size own n true t p = ap (spots.onto c at n own) (fits own n p (leb-true _ _ t))
    by_size own n false t p = refl

    go : (z : Result Head Refusal) → first_of c (x ∷ xs) ≡ z → after c at (length (x ∷ xs)) z (λ k. spots_from c k (at + 1) xs) ≡ Ahead c at (x ∷ xs) z
    go (Err r) e = refl
    go (Ok Head.End) e = refl
    go (Ok (Head.Option own size)) e = by_size own size.0 (leb size.0 (length (x ∷ xs))) refl (first_pos c (x ∷ xs) e)

-- ---- by the steps of the walk

module _ (c : Carrier) (area : List ℕ) where
  -- from an index on
  abbrev pub spots_at : ℕ → List Spot
  spots_at at = spots_from c 0 at (drop at area)

  abbrev Spotted : ℕ → Result Step Refusal → Type 0
  Spotted at (Ok (Step.Block start end)) = spots_at at ≡ spot start end ∷ spots_at end
  Spotted at (Ok (Step.Skipped end)) = spots_at at ≡ spots_at end
  Spotted at (Ok Step.End) = spots_at at ≡ []
  Spotted at (Err _) = spots_at at ≡ []

  past_end : (at : ℕ) → length area ≤ at → spots_at at ≡ []
  past_end at h = ap (spots_from c 0 at) (drop_of_length-le area {i = at} h) ∙ spots-none c at

  spotted-option : (at : ℕ) (own : Bool) (n : ℕ) → n ≤ length area - at
      → spots_at at ≡ spots.onto c at n own (spots_from c 0 (at + n) (drop n (drop at area))) → Spotted at (Ok (option_at c at own n))
  spotted-option at true n h e = e ∙ ap (λ (l : List ℕ). spot (at + header_of c) (at + n) ∷ spots_from c 0 (at + n) l) (drop-drop n at area)
  spotted-option at false n h e = e ∙ ap (spots_from c 0 (at + n)) (drop-drop n at area)

  spotted-size : (at : ℕ) (own : Bool) (n : ℕ) (b : Bool) → leb n (length area - at) ≡ b
      → spots_at at ≡ cond b (spots.onto c at n own (spots_from c 0 (at + n) (drop n (drop at area)))) [] → Spotted at (cond b (Ok (option_at c at own n)) (Err Framing))
  spotted-size at own n true t e = spotted-option at own n (leb-true _ _ t) e
  spotted-size at own n false t e = e

  spotted-head : (at : ℕ) (z : Result Head Refusal) → spots_at at ≡ Ahead c at (drop at area) z → Spotted at (head_at c (length area - at) at z)
  spotted-head at (Err r) e = e
  spotted-head at (Ok Head.End) e = e
  spotted-head at (Ok (Head.Option own size)) e =
      spotted-size at own size.0 (leb size.0 (length area - at)) refl
      (e ∙ ap (λ (n : ℕ). cond (leb size.0 n) (spots.onto c at size.0 own (spots_from c 0 (at + size.0) (drop size.0 (drop at area)))) [])
      (length-drop at area))

  spotted : (at : ℕ) → Spotted at (step_at c area at)
  spotted at = go (ltb at (length area)) (ltb (length area) at) refl refl
    where
      go : (b b' : Bool) → ltb at (length area) ≡ b → ltb (length area) at ≡ b' → Spotted at (step_at c area at)
      go true b' t u =
          let h : at < length area = ltb-true _ _ t in
          subst⁻¹ (Spotted at) (step-first c area at h)
          (spotted-head at (first_of c (drop at area)) (spots-first c at (drop at area) (omega (arith, length-drop at area))))
      go false true t u =
          let h : length area < at = ltb-true _ _ u in
          subst⁻¹ (Spotted at) (step_past c area at h) (past_end at (omega arith))
      go false false t u =
          let ge : length area ≤ at = ltb-false _ _ t in
          let le : at ≤ length area = ltb-false _ _ u in
          subst⁻¹ (Spotted at) (step-at-end c area at (omega arith)) (past_end at ge)

  module _ (at : ℕ) where
    pub spots-block : {start end : ℕ} → step_at c area at ≡ Ok (Step.Block start end) → spots_at at ≡ spot start end ∷ spots_at end
    spots-block e = subst (Spotted at) e (spotted at)

    pub spots-skipped : {end : ℕ} → step_at c area at ≡ Ok (Step.Skipped end) → spots_at at ≡ spots_at end
    spots-skipped e = subst (Spotted at) e (spotted at)

    pub spots-end : step_at c area at ≡ Ok Step.End → spots_at at ≡ []
    spots-end e = subst (Spotted at) e (spotted at)

    pub spots-fault : {r : Refusal} → step_at c area at ≡ Err r → spots_at at ≡ []
    spots-fault e = subst (Spotted at) e (spotted at)

  -- what holds of every index in the area, by what holds of the index after
  module _ (P : ℕ → Type 0)
      (end : (at : ℕ) → step_at c area at ≡ Ok Step.End → P at)
      (broken : (at : ℕ) (r : Refusal) → at ≤ length area → step_at c area at ≡ Err r → P at)
      (skipped : (at to : ℕ) → step_at c area at ≡ Ok (Step.Skipped to) → P to → P at)
      (block : (at start to : ℕ) → step_at c area at ≡ Ok (Step.Block start to) → P to → P at) where
    steps-within : (n at : ℕ) → length area - at < n → at ≤ length area → P at
    steps-within zero at h w = absurd (omega arith)
    steps-within (suc n) at h w = go (steps-within n) (step_at c area at) refl
      where
        go : ((to : ℕ) → length area - to < n → to ≤ length area → P to) → (s : Result Step Refusal) → step_at c area at ≡ s → P at
        go ih (Ok Step.End) e = end at e
        go ih (Err r) e = broken at r w e
        go ih (Ok (Step.Skipped to)) e = let m = step-skipped c area at e in skipped at to e (ih to (omega (arith, m.0, m.1)) m.1)
        go ih (Ok (Step.Block start to)) e = let m = step_block c area at e in block at start to e (ih to (omega (arith, m.0, m.2)) m.2)

    pub by-steps : P 0
    by-steps = steps-within (suc (length area)) 0 (omega arith) (omega arith)
