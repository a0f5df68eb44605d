-- Of fault 22 the judge's place is that of the name's first bad octet, and no other fault has one (RULES N5, W11, T8). Assumes nothing.
use Rattle.std.specs.Prelude.{◌≡◌, Bool, true, false, cond, not, ◌↔◌, List, ltb, eqb, length, Ok, Err}
use Rattle.std.proofs.Math.Path.{refl}
use Rattle.std.proofs.Common.{sym, ap, ◌∙◌, subst, inl, inr, arith, add_assoc, eq-eqb, ne_eqb, eqb-true}
use Prim.Native.Nat.{ℕ, ◌+◌, ◌/◌, ◌%◌, ◌≤◌}
use Rattle.std.proofs.lemmas.Bool.{eqb-false}
use Rattle.octets.specs.Cases.{by-test}
use Rattle.numbers.specs.Fault as fault
use Rattle.numbers.specs.Limit as limit
use Rattle.carriers.specs.declared.Carrier.{Carrier}
use Rattle.carriers.specs.Carriers.{address_width, as_text}
use Rattle.names.specs.Automaton.{Checked}
use Rattle.names.specs.Names.{FirstBad}
use Rattle.names.specs.Wire.{name_check}
use Rattle.names.specs.Exact as names
use Rattle.names.specs.Unique.{one_place}
use Rattle.texts.specs.TextCheck.{text_check}
use Rattle.texts.specs.Exact as texts
use Rattle.addresses.specs.Addresses.{list_of}
use Rattle.svcparams.specs.Params.{params_fault}
use Rattle.svcparams.proofs.Exactly as params
use Rattle.blocks.specs.Block.{Fields}
use Rattle.judge.specs.declared.Side.{Side}
use Rattle.judge.specs.declared.Side.TheVariants.{Reading, Writing}
use Rattle.judge.specs.Place.{Judged}
use Rattle.judge.specs.Place.{judged, place_from, from}
use Rattle.judge.specs.Judge.{name_of, refused_of, tail_fault, name_only_fault, on_name, judged_of, judged_by, fault_of}
use Rattle.judge.specs.Allowed.{NameBy, NameAllowed, FirstBroken, PlaceOf, in_name, nowhere}

-- ---- the name

by_form : (text : Bool) (name : List ℕ) (p : ℕ) → (cond text (text_check name) (name_check name) ≡ Err p) ↔ FirstBad (NameBy text) name p
by_form true name p = texts.bad name p
by_form false name p = names.bad name p

-- the name is bad at p exactly if p is the place of its first bad octet
pub bad-exactly : (side : Side) (c : Carrier) (name : List ℕ) (p : ℕ) → (name_of side c name ≡ Err p) ↔ FirstBad (NameAllowed side c) name p
bad-exactly Reading c name p = by_form (as_text c) name p
bad-exactly Writing c name p = names.bad name p

-- ---- 23 to 28 are not 22

no_name : (k : ℕ) → params.FaultNumber k → k ≡ fault.name → ⊥
no_name k (inl e) h = omega arith
no_name k (inr (inl e)) h = omega arith
no_name k (inr (inr (inl e))) h = omega arith
no_name k (inr (inr (inr e))) h = omega arith

tail-no-name : (side : Side) (w : ℕ) (a p : List ℕ) → tail_fault side w a p ≡ fault.name → ⊥
unfolding tail_fault
tail-no-name side w a p =
    go (eqb (length a) 0) (eqb (length a % w) 0) (ltb limit.addresses (length a / w)) (ltb limit.parameters (length p)) (refused_of side w (list_of w a))
  where
    go : (no whole many long refused : Bool)
        → cond no fault.addresses
        (cond (not whole) fault.addresses (cond many fault.limit (cond long fault.limit (cond refused fault.dropped (params_fault p))))) ≡ fault.name → ⊥
    go true whole many long refused e = omega arith
    go false false many long refused e = omega arith
    go false true true long refused e = omega arith
    go false true false true refused e = omega arith
    go false true false false true e = omega arith
    go false true false false false e = no_name (params_fault p) (params.fault-number p) e

name-only-no-name : (c : Carrier) → name_only_fault c ≡ fault.name → ⊥
name-only-no-name c = by-test (as_text c) (λ t. cond t fault.addresses 0 ≡ fault.name → ⊥) (λ _ e. omega arith) (λ _ e. omega arith)

-- ---- 21 goes before 22

-- fields whose first broken rule is that of the name have a priority
pub named-service : (side : Side) (c : Carrier) (f : Fields) {k : ℕ} → FirstBroken side c f k → k ≡ fault.name → f.priority ≡ 0 → ⊥
named-service side c f (inl b) e = absurd (omega (arith, b.1))
named-service side c f (inr b) e = b.0

-- ---- the judge's place

module _ (side : Side) (c : Carrier) (f : Fields) where
  -- with 22 it is that of the name, and without 22 there is none
  judged-place : (fault_of side c f ≡ fault.name → name_of side c f.name ≡ Err (judged_by side c f).place)
      × ((fault_of side c f ≡ fault.name → ⊥) → (judged_by side c f).place ≡ 0)
  unfolding judged_of
  judged-place = go (eqb f.priority 0) (name_of side c f.name) f.full refl
    where
      tail : ℕ
      tail = tail_fault side (address_width c) f.addresses f.parameters

      answer : Bool → Checked → Bool → Judged
      answer zero n full = cond zero (judged fault.priority 0) (on_name n (λ place. judged fault.name place) (judged (cond full tail (name_only_fault c)) 0))

      go : (zero : Bool) (n : Checked) (full : Bool) → name_of side c f.name ≡ n
          → ((answer zero n full).fault ≡ fault.name → name_of side c f.name ≡ Err (answer zero n full).place)
          × (((answer zero n full).fault ≡ fault.name → ⊥) → (answer zero n full).place ≡ 0)
      go true n full m = ((λ e. absurd (omega arith)), λ h. refl)
      go false (Err place) full m = ((λ e. m), λ h. absurd (h refl))
      go false (Ok tt) true m = ((λ e. absurd (tail-no-name side (address_width c) f.addresses f.parameters e)), λ h. refl)
      go false (Ok tt) false m = ((λ e. absurd (name-only-no-name c e)), λ h. refl)

  pub judged-bad : fault_of side c f ≡ fault.name → name_of side c f.name ≡ Err (judged_by side c f).place
  judged-bad = judged-place.0

  -- it is no more than the name is long
  pub place-within : (judged_by side c f).place ≤ length f.name
  place-within = go (eqb (fault_of side c f) fault.name) refl
    where
      go : (t : Bool) → eqb (fault_of side c f) fault.name ≡ t → (judged_by side c f).place ≤ length f.name
      go true t = ((bad-exactly side c f.name (judged_by side c f).place).0 (judged-bad (eqb-true _ _ t))).within
      go false t = let z = judged-place.1 (eqb-false _ _ t) in omega arith

-- ---- places that are counted from further back

module _ (n k p : ℕ) where
  pub place-name : k ≡ fault.name → n + p ≡ place_from n k p
  place-name e = simp (eq-eqb _ _ e)

  pub place_none : (k ≡ fault.name → ⊥) → 0 ≡ place_from n k p
  place_none h = simp (ne_eqb _ _ h)

module _ {A : List ℕ → Type 0} {name : List ℕ} {at : ℕ} where
  -- a place that is so, counted from further back
  pub placed-from : (n : ℕ) {k p : ℕ} → PlaceOf A name at k p → PlaceOf A name (n + at) k (place_from n k p)
  placed-from n (in_name {i} b) = subst (PlaceOf A name (n + at) fault.name) (add_assoc n at i) (in_name b)
  placed-from n (nowhere {k} h) = subst (PlaceOf A name (n + at) k) (place_none n k 0 h) (nowhere h)

  -- there is one place
  pub placed-once : {k p q : ℕ} → PlaceOf A name at k p → PlaceOf A name at k q → p ≡ q
  placed-once {k} {p} {q} x y = go x y refl refl
    where
      go : {l m p q : ℕ} → PlaceOf A name at l p → PlaceOf A name at m q → l ≡ k → m ≡ k → p ≡ q
      go (in_name a) (in_name b) d e = ap (λ (n : ℕ). at + n) (one_place name _ _ a b)
      go (in_name a) (nowhere h) d e = absurd (h (e ∙ sym d))
      go (nowhere h) (in_name b) d e = absurd (h (d ∙ sym e))
      go (nowhere g) (nowhere h) d e = refl

module _ (side : Side) (c : Carrier) (f : Fields) (at : ℕ) where
  is-placed : PlaceOf (NameAllowed side c) f.name at (fault_of side c f) (from at (judged_by side c f)).place
  is-placed = go (eqb (fault_of side c f) fault.name) refl
    where
      go : (t : Bool) → eqb (fault_of side c f) fault.name ≡ t
          → PlaceOf (NameAllowed side c) f.name at (fault_of side c f) (cond t (at + (judged_by side c f).place) 0)
      go true t =
          let e : fault_of side c f ≡ fault.name = eqb-true _ _ t in
          subst (λ (k : ℕ). PlaceOf (NameAllowed side c) f.name at k (at + (judged_by side c f).place)) (sym e)
          (in_name ((bad-exactly side c f.name (judged_by side c f).place).0 (judged-bad side c f e)))
      go false t = nowhere (eqb-false _ _ t)

  -- the judge's place, where the name stands at an index, is the place of its fault and nothing else
  pub placed-exactly : (p : ℕ) → ((from at (judged_by side c f)).place ≡ p) ↔ PlaceOf (NameAllowed side c) f.name at (fault_of side c f) p
  placed-exactly p =
      (λ e. subst (PlaceOf (NameAllowed side c) f.name at (fault_of side c f)) e is-placed, λ x. placed-once is-placed x)
