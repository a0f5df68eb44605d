-- What stands at the spots of an area: the bodies of its own options, and in carrier 1 the octets of the joined data. Assumes nothing.
use Rattle.std.specs.Prelude.{◌≡◌, refl, Bool, true, false, List, [], ◌∷◌, ◌++◌, map, ℕ, ◌+◌, ◌-◌, ◌≤◌, ◌<◌, ltb, length, get_or, drop}
use Rattle.std.proofs.Common.{sym, ap, ◌∙◌, add-zero, arith, ltb-true, ltb-false, length-append, get_or-take, get_or-drop, get_or-append-add}
use Rattle.std.proofs.Math.Path.{subst⁻¹}
use Rattle.std.proofs.Math.ListN.{get_or-append}
use Rattle.octets.specs.Lists.{All, flat}
use Rattle.carriers.specs.declared.Carrier.{Carrier}
use Rattle.frames.specs.Frame.{Framed, fault, framed, onto, frame}
use Rattle.frames.specs.Step.{part}
use Rattle.frames.specs.Laws.{fault-framed, step_end, step-fault, step-skipped, step_block}
use Rattle.frames.proofs.GatherLaws.{part_length}
use Rattle.frames.proofs.AreaLaws.{framed-same}
use Rattle.findings.specs.Spots.{Spot, spots_of, place_in}
use Rattle.findings.specs.Told.{body_at, Lies}
use Rattle.findings.specs.SpotsLaws.{spots_at, spots-block, spots-skipped, spots-end, spots-fault, by-steps}
use Rattle.findings.specs.PlacingLaws.{place_none, place-in, place_after}

framed-more : {b : List ℕ} {f : Framed} {bs : List (List ℕ)} → onto true b f ≡ framed bs → (cs : List (List ℕ)) × (f ≡ framed cs) × (b ∷ cs ≡ bs)
framed-more {b} {f} {bs} = go f
  where
    go : (f : Framed) → onto true b f ≡ framed bs → (cs : List (List ℕ)) × (f ≡ framed cs) × (b ∷ cs ≡ bs)
    go fault e = absurd (fault-framed e)
    go (framed cs) e = (cs, refl, cc)

module _ (c : Carrier) (area : List ℕ) where
  pub spots-lie : All (Lies area) (spots_of c area)
  spots-lie =
      by-steps c area (λ at. All (Lies area) (spots_at c area at))
      (λ at e. subst⁻¹ (All (Lies area)) (spots-end c area at e) tt)
      (λ at r w e. subst⁻¹ (All (Lies area)) (spots-fault c area at e) tt)
      (λ at to e h. subst⁻¹ (All (Lies area)) (spots-skipped c area at e) h)
      (λ at start to e h. let m = step_block c area at e in subst⁻¹ (All (Lies area)) (spots-block c area at e) ((m.1, m.2), h))

  pub spots-bodies : {bs : List (List ℕ)} → frame c area ≡ framed bs → map (body_at area) (spots_of c area) ≡ bs
  spots-bodies {bs} =
      by-steps c area (λ at. (bs : List (List ℕ)) → frame c (drop at area) ≡ framed bs → map (body_at area) (spots_at c area at) ≡ bs)
      (λ at e bs q. ap (map (body_at area)) (spots-end c area at e) ∙ framed-same (sym (step_end c area at e) ∙ q))
      (λ at r w e bs q. absurd (fault-framed (sym (step-fault c area at e w) ∙ q)))
      (λ at to e h bs q. ap (map (body_at area)) (spots-skipped c area at e) ∙ h bs (sym (step-skipped c area at e).2 ∙ q))
      (λ at start to e h bs q.
      let more = framed-more (sym (step_block c area at e).3 ∙ q) in
      ap (map (body_at area)) (spots-block c area at e) ∙ ap (λ (l : List (List ℕ)). part start to area ∷ l) (h more.0 more.1) ∙ more.2)
      bs

-- ---- octets

module _ (area : List ℕ) where
  -- the octets at spots, one after another
  abbrev joined : List Spot → List ℕ
  joined ss = flat (map (body_at area) ss)

  module _ (s : Spot) (ss : List Spot) (h : Lies area s) where
    size : length (body_at area s) ≡ s.end - s.start
    size = part_length s.start s.end area h.1

    sizes : length (joined (s ∷ ss)) ≡ (s.end - s.start) + length (joined ss)
    sizes = length-append (body_at area s) (joined ss) ∙ ap (λ (n : ℕ). n + length (joined ss)) size

    -- an octet of the first body, and one after it
    first-octet : (j : ℕ) → j < s.end - s.start → get_or area (s.start + j) 0 ≡ get_or (joined (s ∷ ss)) j 0
    first-octet j k =
        sym (get_or-drop s.start area j 0)
        ∙ sym (get_or-take (s.end - s.start) (drop s.start area) j 0 k)
        ∙ sym (get_or-append (body_at area s) (joined ss) 0 j (omega (arith, size)))

    later-octet : (j : ℕ) → s.end - s.start ≤ j → get_or (joined ss) (j - (s.end - s.start)) 0 ≡ get_or (joined (s ∷ ss)) j 0
    later-octet j k =
        let there : length (body_at area s) + (j - (s.end - s.start)) ≡ j = omega (arith, size) in
        sym (get_or-append-add (body_at area s) (joined ss) (j - (s.end - s.start)) 0) ∙ ap (λ (i : ℕ). get_or (joined (s ∷ ss)) i 0) there

  pub octet-in : (ss : List Spot) (last j : ℕ) → All (Lies area) ss → j < length (joined ss)
      → (get_or area (place_in ss last j) 0 ≡ get_or (joined ss) j 0) × (place_in ss last j < length area)
  octet-in [] last j h k = absurd (omega arith)
  octet-in (s ∷ ss) last j h k = go (λ (i : ℕ). octet-in ss s.end i h.1) (ltb j n) refl
    where
      n : ℕ
      n = s.end - s.start

      Stands : ℕ → Type 0
      Stands i = (get_or area i 0 ≡ get_or (joined (s ∷ ss)) j 0) × (i < length area)

      go : ((i : ℕ) → i < length (joined ss) → (get_or area (place_in ss s.end i) 0 ≡ get_or (joined ss) i 0) × (place_in ss s.end i < length area))
          → (b : Bool) → ltb j n ≡ b → Stands (place_in (s ∷ ss) last j)
      go ih true t =
          let less : j < s.end - s.start = ltb-true _ _ t in
          subst⁻¹ Stands (place-in s ss last j less) (first-octet s ss h.0 j less, omega (arith, h.0.1))
      go ih false t =
          let more : s.end - s.start ≤ j = ltb-false _ _ t in
          let r = ih (j - (s.end - s.start)) (omega (arith, sizes s ss h.0)) in
          subst⁻¹ Stands (place_after s ss last j more) (r.0 ∙ later-octet s ss h.0 j more, r.1)

  -- after the last octet: the end of the last body
  pub end-in : (ss : List Spot) (s : Spot) (last : ℕ) → All (Lies area) (ss ++ (s ∷ []))
      → place_in (ss ++ (s ∷ [])) last (length (joined (ss ++ (s ∷ [])))) ≡ s.end
  end-in [] s last h =
      let e = sizes s [] h.0 in
      let none : length (joined (s ∷ [])) - (s.end - s.start) ≡ 0 = omega arith in
      place_after s [] last (length (joined (s ∷ []))) (omega arith)
      ∙ place_none s.end (length (joined (s ∷ [])) - (s.end - s.start))
      ∙ ap (λ (n : ℕ). s.end + n) none ∙ add-zero s.end
  end-in (r ∷ ss) s last h =
      let e = sizes r (ss ++ (s ∷ [])) h.0 in
      let left : length (joined (r ∷ (ss ++ (s ∷ [])))) - (r.end - r.start) ≡ length (joined (ss ++ (s ∷ []))) = omega arith in
      place_after r (ss ++ (s ∷ [])) last (length (joined (r ∷ (ss ++ (s ∷ []))))) (omega arith)
      ∙ ap (place_in (ss ++ (s ∷ [])) r.end) left
      ∙ end-in ss s r.end h.1

  pub place-in-area : (ss : List Spot) (last j : ℕ) → All (Lies area) ss → last ≤ length area → j ≤ length (joined ss) → place_in ss last j ≤ length area
  place-in-area [] last j h l k = omega (arith, place_none last j)
  place-in-area (s ∷ ss) last j h l k = go (λ (i : ℕ). place-in-area ss s.end i h.1 h.0.1) (ltb j (s.end - s.start)) refl
    where
      go : ((i : ℕ) → i ≤ length (joined ss) → place_in ss s.end i ≤ length area) → (b : Bool) → ltb j (s.end - s.start) ≡ b
          → place_in (s ∷ ss) last j ≤ length area
      go ih true t = let less : j < s.end - s.start = ltb-true _ _ t in omega (arith, place-in s ss last j less, h.0.1)
      go ih false t =
          let more : s.end - s.start ≤ j = ltb-false _ _ t in
          omega (arith, place_after s ss last j more, ih (j - (s.end - s.start)) (omega (arith, sizes s ss h.0)))

-- a list with an element has a last one
pub last_one : (s : Spot) (ss : List Spot) → (front : List Spot) × (r : Spot) × (s ∷ ss ≡ front ++ (r ∷ []))
last_one s [] = ([], s, refl)
last_one s (r ∷ ss) = let l = last_one r ss in (s ∷ l.0, l.1, ap (λ (m : List Spot). s ∷ m) l.2)
