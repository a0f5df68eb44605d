-- The laws of framing, once over the carrier: the equations of `frame`, and what a step says of the walk from there. Assumes nothing.
use Rattle.std.specs.Prelude.{◌≡◌, refl, Bool, true, false, cond, List, [], ◌∷◌, ℕ, zero, suc, ◌+◌, ◌-◌, ◌%◌, ◌≤◌, ◌<◌, length, take, drop, ltb, leb, Result, Ok, Err}
use Rattle.std.proofs.Common.{sym, ap, ap₂, ◌∙◌, subst, le_of_suc-le-suc, not-suc-le-zero, arith, length-drop, drop-drop, lt-ltb, le-ltb, le-leb, eq-eqb, ne_eqb, ltb-true, ltb-false, leb-true, leb-false}
use Rattle.std.proofs.Math.Path.{subst⁻¹}
use Rattle.std.proofs.Math.Seq.{drop-length}
use Rattle.std.proofs.lemmas.Bool.{lt-leb}
use Rattle.octets.specs.ListsLaws.{take_rest, drop-take, skip-within, skip-past}
use Rattle.numbers.specs.declared.Refusal.{Refusal}
use Rattle.numbers.specs.declared.Refusal.TheVariants.{Framing}
use Rattle.carriers.specs.declared.Carrier.{Carrier}
use Rattle.carriers.specs.declared.Carrier.TheVariants.{Router}
use Rattle.carriers.specs.Carriers.{header_of, octets}
use Rattle.frames.specs.declared.Head.{Head}
use Rattle.frames.specs.declared.Step.{Step}
use Rattle.frames.specs.Frame.{first_of, Framed, fault, framed, onto, after, frame_from, frame}
use Rattle.frames.specs.Step.{part, option_at, head_at, step_at}
use Rattle.frames.specs.HeadLaws.{first_pos, first-own, first-framing, header-pos}

pub fault-framed : {bs : List (List ℕ)} → fault ≡ framed bs → ⊥
fault-framed e = let z : ◌≡◌ {A = ℕ} 0 1 = cc in omega arith

-- ---- the walk

-- octets to be skipped are skipped, where they are there
pub skip : (c : Carrier) (k : ℕ) (s : List ℕ) → k ≤ length s → frame_from c k s ≡ frame c (drop k s)
unfolding frame_from
skip c = skip-within (frame_from c) (λ k x xs. refl)

pub past : (c : Carrier) (k : ℕ) (s : List ℕ) → length s < k → frame_from c k s ≡ fault
unfolding frame_from
past c = skip-past (frame_from c) (λ k x xs. refl) (λ k. refl)

pub frame-none : (c : Carrier) → frame c [] ≡ framed []
unfolding frame_from
frame-none c = refl

pub frame-bad : (c : Carrier) (s : List ℕ) {r : Refusal} → 0 < length s → first_of c s ≡ Err r → frame c s ≡ fault
unfolding frame_from
frame-bad c [] h e = absurd (not-suc-le-zero h)
frame-bad c (x ∷ xs) h e = ap (λ (z : Result Head Refusal). after c (x ∷ xs) z (λ k. frame_from c k xs)) e

pub frame-end : (c : Carrier) (s : List ℕ) → 0 < length s → first_of c s ≡ Ok Head.End → frame c s ≡ framed []
unfolding frame_from
frame-end c [] h e = absurd (not-suc-le-zero h)
frame-end c (x ∷ xs) h e = ap (λ (z : Result Head Refusal). after c (x ∷ xs) z (λ k. frame_from c k xs)) e

pub frame-option : (c : Carrier) (s : List ℕ) {own : Bool} {n : ℕ} → 0 < length s → first_of c s ≡ Ok (Head.Option own (octets n)) → n ≤ length s
    → frame c s ≡ onto own (drop (header_of c) (take n s)) (frame c (drop n s))
unfolding frame_from
frame-option c [] p e h = absurd (not-suc-le-zero p)
frame-option c (x ∷ xs) {own} {n = zero} p e h = absurd (not-suc-le-zero (first_pos c (x ∷ xs) e))
frame-option c (x ∷ xs) {own} {n = suc n} p e h =
    ap (λ (z : Result Head Refusal). after c (x ∷ xs) z (λ k. frame_from c k xs)) e
    ∙ ap (λ (k : ℕ). onto own (drop (header_of c) (take (suc n) (x ∷ xs))) (frame_from c k xs)) (omega arith)
    ∙ ap (onto own (drop (header_of c) (take (suc n) (x ∷ xs)))) (skip c n xs (le_of_suc-le-suc h))

pub frame-over : (c : Carrier) (s : List ℕ) {own : Bool} {n : ℕ} → 0 < length s → first_of c s ≡ Ok (Head.Option own (octets n)) → length s < n → frame c s ≡ fault
unfolding frame_from
frame-over c [] p e h = absurd (not-suc-le-zero p)
frame-over c (x ∷ xs) {own} {n} p e h =
    ap (λ (z : Result Head Refusal). after c (x ∷ xs) z (λ k. frame_from c k xs)) e
    ∙ ap (onto own (drop (header_of c) (take n (x ∷ xs)))) (past c (n - 1) xs (omega arith))

pub onto-skipped : (b : List ℕ) (f : Framed) → onto false b f ≡ f
onto-skipped b fault = refl
onto-skipped b (framed bs) = refl

-- ---- one step, as the code finds it

pub step-at-end : (c : Carrier) (s : List ℕ) (at : ℕ) → at ≡ length s → step_at c s at ≡ Ok Step.End
unfolding step_at
step-at-end c s at e = simp (eq-eqb _ _ e)

pub step_past : (c : Carrier) (s : List ℕ) (at : ℕ) → length s < at → step_at c s at ≡ Err Framing
unfolding step_at
step_past c s at h =
    let ne : at ≡ length s → ⊥ = λ q. omega arith in
    simp (ne_eqb _ _ ne, lt-ltb _ _ h)

-- inside the area a step is what the header there says
pub step-first : (c : Carrier) (s : List ℕ) (at : ℕ) → at < length s → step_at c s at ≡ head_at c (length s - at) at (first_of c (drop at s))
unfolding step_at
step-first c s at h =
    let ne : at ≡ length s → ⊥ = λ q. omega arith in
    let le : at ≤ length s = omega arith in
    simp (ne_eqb _ _ ne, le-ltb _ _ le)

pub option-fits : (c : Carrier) (left at : ℕ) (own : Bool) (n : ℕ) → n ≤ left → head_at c left at (Ok (Head.Option own (octets n))) ≡ Ok (option_at c at own n)
option-fits c left at own n h = simp (le-leb _ _ h)

pub option-over : (c : Carrier) (left at : ℕ) (own : Bool) (n : ℕ) → left < n → head_at c left at (Ok (Head.Option own (octets n))) ≡ Err Framing
option-over c left at own n h = simp (lt-leb _ _ h)

-- the same of a header that was read from the rest of the area
pub step_is : (c : Carrier) (s : List ℕ) (at : ℕ) {z : Result Head Refusal} {r : Result Step Refusal} → at < length s → z ≡ first_of c (take (length s - at) (drop at s))
    → head_at c (length s - at) at z ≡ r → r ≡ step_at c s at
step_is c s at h e q =
    let all = take_rest at s in
    sym (step-first c s at h ∙ ap (λ (l : List ℕ). head_at c (length s - at) at (first_of c l)) (sym all) ∙ ap (head_at c (length s - at) at) (sym e) ∙ q)

-- an own option's header is all there, so its body begins inside the area
pub own_room : (c : Carrier) (s : List ℕ) (at : ℕ) {n : ℕ} → at ≤ length s → Ok (Head.Option true (octets n)) ≡ first_of c (take (length s - at) (drop at s))
    → at + header_of c ≤ length s
own_room c s at h e = omega (arith, (first-own c (take (length s - at) (drop at s)) (sym e)).room, ap length (take_rest at s), length-drop at s)

-- ---- what a step says of the walk from there

-- the body, as a part of the whole area
body-part : (s : List ℕ) (at h n : ℕ) → h ≤ n → drop h (take n (drop at s)) ≡ part (at + h) (at + n) s
body-part s at h n le =
    let size : n - h ≡ at + n - (at + h) = omega arith in
    drop-take h n (drop at s)
    ∙ ap (take (n - h)) (drop-drop h at s)
    ∙ ap (λ (k : ℕ). take k (drop (at + h) s)) size

-- each kind of step, and the walk from its index
abbrev Moves : Carrier → List ℕ → ℕ → Result Step Refusal → Type 0
Moves c s at (Ok (Step.Block start end)) =
    (start ≡ at + header_of c) × (start ≤ end) × (end ≤ length s)
    × (frame c (drop at s) ≡ onto true (part start end s) (frame c (drop end s)))
    × (first_of c (drop at s) ≡ Ok (Head.Option true (octets (end - at))))
Moves c s at (Ok (Step.Skipped end)) = (at < end) × (end ≤ length s) × (frame c (drop at s) ≡ frame c (drop end s))
Moves c s at (Ok Step.End) = (at ≤ length s) × (frame c (drop at s) ≡ framed [])
Moves c s at (Err r) = (r ≡ Framing) × (at ≤ length s → frame c (drop at s) ≡ fault)

module _ (c : Carrier) (s : List ℕ) (at : ℕ) (inside : at < length s) where
  some_left : 0 < length (drop at s)
  some_left = omega (arith, length-drop at s)

  moves-fits : (own : Bool) (n : ℕ) → first_of c (drop at s) ≡ Ok (Head.Option own (octets n)) → n ≤ length s - at → Moves c s at (Ok (option_at c at own n))
  moves-fits true n e h =
      let r = first-own c (drop at s) e in (
        refl,
        omega arith,
        omega arith,
        frame-option c (drop at s) some_left e (omega (arith, length-drop at s))
            ∙ ap₂ (λ (b t : List ℕ). onto true b (frame c t)) (body-part s at (header_of c) n r.body) (drop-drop n at s),
        e ∙ ap (λ (k : ℕ). Ok (Head.Option true (octets k))) (omega arith),
      )
  moves-fits false n e h =
      let p = first_pos c (drop at s) e in (
        omega arith,
        omega arith,
        frame-option c (drop at s) some_left e (omega (arith, length-drop at s))
            ∙ onto-skipped (drop (header_of c) (take n (drop at s))) (frame c (drop n (drop at s)))
            ∙ ap (frame c) (drop-drop n at s),
      )

  moves-option : (own : Bool) (n : ℕ) (b : Bool) → leb n (length s - at) ≡ b → first_of c (drop at s) ≡ Ok (Head.Option own (octets n))
      → Moves c s at (cond b (Ok (option_at c at own n)) (Err Framing))
  moves-option own n true t e = moves-fits own n e (leb-true _ _ t)
  moves-option own n false t e =
      let lt : length s - at < n = leb-false _ _ t in
      (refl, λ _. frame-over c (drop at s) some_left e (omega (arith, length-drop at s)))

  moves-head : (z : Result Head Refusal) → first_of c (drop at s) ≡ z → Moves c s at (head_at c (length s - at) at z)
  moves-head (Err r) e = (first-framing c (drop at s) e, λ _. frame-bad c (drop at s) some_left e)
  moves-head (Ok Head.End) e = (omega arith, frame-end c (drop at s) some_left e)
  moves-head (Ok (Head.Option own size)) e = moves-option own size.0 (leb size.0 (length s - at)) refl e

moves : (c : Carrier) (s : List ℕ) (at : ℕ) → Moves c s at (step_at c s at)
moves c s at = go (ltb at (length s)) (ltb (length s) at) refl refl
  where
    go : (b b' : Bool) → ltb at (length s) ≡ b → ltb (length s) at ≡ b' → Moves c s at (step_at c s at)
    go true b' t u = subst⁻¹ (Moves c s at) (step-first c s at (ltb-true _ _ t)) (moves-head c s at (ltb-true _ _ t) (first_of c (drop at s)) refl)
    go false true t u =
        let h : length s < at = ltb-true _ _ u in
        subst⁻¹ (Moves c s at) (step_past c s at h) (refl, λ le. absurd (omega arith))
    go false false t u =
        let ge : length s ≤ at = ltb-false _ _ t in
        let le : at ≤ length s = ltb-false _ _ u in
        let e : at ≡ length s = omega arith in
        subst⁻¹ (Moves c s at) (step-at-end c s at e) (le, ap (λ (k : ℕ). frame c (drop k s)) e ∙ ap (frame c) (drop-length s) ∙ frame-none c)

module _ (c : Carrier) (area : List ℕ) (at : ℕ) where
  pub step_end : step_at c area at ≡ Ok Step.End → frame c (drop at area) ≡ framed []
  step_end e = (subst (Moves c area at) e (moves c area at)).1

  pub step-fault : {r : Refusal} → step_at c area at ≡ Err r → at ≤ length area → frame c (drop at area) ≡ fault
  step-fault e h = (subst (Moves c area at) e (moves c area at)).1 h

  -- what is refused cannot be framed
  pub step-framing : {r : Refusal} → step_at c area at ≡ Err r → r ≡ Framing
  step-framing e = (subst (Moves c area at) e (moves c area at)).0

  pub step-skipped : {end : ℕ} → step_at c area at ≡ Ok (Step.Skipped end)
      → (at < end) × (end ≤ length area) × (frame c (drop at area) ≡ frame c (drop end area))
  step-skipped e = subst (Moves c area at) e (moves c area at)

  pub step_block : {start end : ℕ} → step_at c area at ≡ Ok (Step.Block start end)
      → (at < end) × (start ≤ end) × (end ≤ length area) × (frame c (drop at area) ≡ onto true (part start end area) (frame c (drop end area)))
  step_block e =
      let m = subst (Moves c area at) e (moves c area at) in
      (omega (arith, header-pos c), m.1, m.2, m.3)

  -- a body stands just after its header
  pub step-body : {start end : ℕ} → step_at c area at ≡ Ok (Step.Block start end) → start ≡ at + header_of c
  step-body e = (subst (Moves c area at) e (moves c area at)).0

-- in carrier 3 a header and its body are whole units of eight octets
pub step-units : (area : List ℕ) (at : ℕ) {start end : ℕ} → step_at Router area at ≡ Ok (Step.Block start end) → (end - start + 2) % 8 ≡ 0
step-units area at e =
    let m = subst (Moves Router area at) e (moves Router area at) in
    omega (arith, (first-own Router (drop at area) m.4).size, m.0, m.1)
