-- The walk of `place` over the options of an area: it begins, goes on and ends. Assumes nothing.
use Rattle.std.specs.Prelude.{◌≡◌, refl, List, [], ◌∷◌, ℕ, ◌+◌, ◌-◌, ◌≤◌, ◌<◌, length, Ok, Err}
use Rattle.std.proofs.Common.{sym, ap, ◌∙◌, arith, lt-ltb, le-ltb}
use Rattle.numbers.specs.declared.Refusal.{Refusal}
use Rattle.carriers.specs.declared.Carrier.TheVariants.{Dhcp4}
use Rattle.frames.specs.declared.Step.{Step}
use Rattle.frames.specs.Step.{step_at}
use Rattle.frames.specs.Laws.{step-skipped, step_block}
use Rattle.findings.specs.Spots.{Spot, place_in, place_of}
use Rattle.findings.specs.SpotsLaws.{spot, spots_at, spots-block, spots-skipped, spots-end, spots-fault}

-- before an index the octets up to octet j stand, but for `left` of them; the last body there ends at `last`
pub record Placing (area : List ℕ) (j at last left : ℕ) : Type 0 where
  pub within : at ≤ length area
  pub behind : last ≤ at
  pub fewer : left ≤ j
  pub places : place_of area j ≡ place_in (spots_at Dhcp4 area at) last left

pub place_none : (last j : ℕ) → place_in [] last j ≡ last + j
unfolding place_in
place_none last j = refl

module _ (s : Spot) (ss : List Spot) (last j : ℕ) where
  pub place-in : j < s.end - s.start → place_in (s ∷ ss) last j ≡ s.start + j
  unfolding place_in
  place-in h = simp (lt-ltb _ _ h)

  pub place_after : s.end - s.start ≤ j → place_in (s ∷ ss) last j ≡ place_in ss s.end (j - (s.end - s.start))
  unfolding place_in
  place_after h = simp (le-ltb _ _ h)

pub placing-start : (area : List ℕ) (j : ℕ) → Placing area j 0 0 j
unfolding place_of
placing-start area j = record { within = omega arith; behind = omega arith; fewer = omega arith; places = refl }

module _ {area : List ℕ} {j at last left : ℕ} (p : Placing area j at last left) where
  module _ {start end : ℕ} (e : step_at Dhcp4 area at ≡ Ok (Step.Block start end)) where
    here : place_of area j ≡ place_in (spot start end ∷ spots_at Dhcp4 area end) last left
    here = p.places ∙ ap (λ (l : List Spot). place_in l last left) (spots-block Dhcp4 area at e)

    pub placing-found : left < end - start → start + left ≡ place_of area j
    placing-found h = sym (here ∙ place-in (spot start end) (spots_at Dhcp4 area end) last left h)

    pub placing-block : end - start ≤ left → Placing area j end end (left - (end - start))
    placing-block h =
        let m = step_block Dhcp4 area at e in
        record {
          within = m.2;
          behind = omega arith;
          fewer = omega (arith, p.fewer);
          places = here ∙ place_after (spot start end) (spots_at Dhcp4 area end) last left h;
        }

  pub placing-skipped : {end : ℕ} → step_at Dhcp4 area at ≡ Ok (Step.Skipped end) → Placing area j end last left
  placing-skipped {end} e =
      let m = step-skipped Dhcp4 area at e in
      record {
        within = m.1;
        behind = omega (arith, p.behind, m.0);
        fewer = p.fewer;
        places = p.places ∙ ap (λ (l : List Spot). place_in l last left) (spots-skipped Dhcp4 area at e);
      }

  pub placing-end : step_at Dhcp4 area at ≡ Ok Step.End → last + left ≡ place_of area j
  placing-end e = sym (p.places ∙ ap (λ (l : List Spot). place_in l last left) (spots-end Dhcp4 area at e) ∙ place_none last left)

  pub placing-fault : {r : Refusal} → step_at Dhcp4 area at ≡ Err r → last + left ≡ place_of area j
  placing-fault e = sym (p.places ∙ ap (λ (l : List Spot). place_in l last left) (spots-fault Dhcp4 area at e) ∙ place_none last left)
