-- The judge finds no fault exactly in fields that are allowed, and the fault that it finds is the number of the first broken rule.
-- Assumes nothing.
use Rattle.std.proofs.Math.Path.{◌≡◌, refl, sym}
use Rattle.std.proofs.Common.{ap, ◌∙◌, subst, true≢false, eqb-true, eq-eqb, ne_eqb, ltb-false, le-ltb}
use Rattle.std.specs.Prelude.{Bool, cond, not, ◌↔◌, List, [], ◌∷◌, ℕ, ◌/◌, ◌%◌, ◌≤◌, ◌<◌, ltb, length, Ok, Err}
use Rattle.std.proofs.Math.Bool.{true, false}
use Rattle.std.specs.Bool.{beq}
use Rattle.std.proofs.Math.Logic.{inl, inr}
use Rattle.std.proofs.Math.Logic.Iff as iff
use native.Mathlib.Omega.{arith}
use Rattle.std.proofs.Math.Dec.{eqb}
use Rattle.std.proofs.lemmas.Bool.{eqb-false, not-true, not-false}
use Rattle.octets.specs.Lists.{All}
use Rattle.octets.specs.Numbers.{Bytes}
use Rattle.numbers.specs.Fault as fault
use Rattle.numbers.specs.Limit as limit
use Rattle.carriers.specs.declared.Carrier.{Carrier}
use Rattle.carriers.specs.Carriers.{address_width, as_text}
use Rattle.names.specs.Automaton.{Checked}
use Rattle.names.specs.Wire.{name_check}
use Rattle.names.specs.Exact as names
use Rattle.texts.specs.TextCheck.{text_check}
use Rattle.texts.specs.Exact as texts
use Rattle.addresses.specs.Addresses.{Width, unusable, list_of, has_of, any_of, none_of}
use Rattle.addresses.specs.AddressesLaws.{list-wide, none_has}
use Rattle.addresses.specs.Ranges.{Unusable}
use Rattle.addresses.specs.RangesLaws.{unusable-exactly}
use Rattle.svcparams.specs.Params.{params_fault}
use Rattle.svcparams.specs.Param.{Param, keys}
use Rattle.svcparams.specs.Accepted.{Ordered, Hinted}
use Rattle.svcparams.specs.Accepted as value
use Rattle.svcparams.proofs.VerdictLaws.{allowed-fault, Verdict, unordered, hinted, forbidden, accepted, verdict}
use Rattle.svcparams.proofs.Exactly.{params-exactly, field-once}
use Rattle.blocks.specs.Block.{Fields}
use Rattle.judge.specs.declared.Side.{Side}
use Rattle.judge.specs.declared.Side.TheVariants.{Reading, Writing}
use Rattle.judge.specs.Place.{judged}
use Rattle.judge.specs.Judge.{name_of, refused_of, tail_fault, name_only_fault, on_name, judged_of, fault_of}
use Rattle.judge.specs.Passed.{PassedTail, Passed}
use Rattle.judge.specs.JudgeLaws.{carrier-width, fault-passed, passed-fault}
use Rattle.judge.specs.Allowed.{NameBy, NameAllowed, Usable, TailAllowed, Allowed, Rule, Unbroken, ParametersBroken, TailBroken, FormBroken, FirstBroken}

-- a test that decides X, where it fails
refuted : (b : Bool) {X : Type 0} → (b ≡ true) ↔ X → (b ≡ false) ↔ (X → ⊥)
refuted true d = (λ e. absurd (true≢false e), λ n. absurd (n (d.0 refl)))
refuted false d = (λ _ x. true≢false (sym (d.1 x)), λ _. refl)

-- ---- the name

by_form : (text : Bool) (name : List ℕ) → (cond text (text_check name) (name_check name) ≡ Ok tt) ↔ NameBy text name
by_form true name = texts.good name
by_form false name = names.good name

pub name-exactly : (side : Side) (c : Carrier) (name : List ℕ) → (name_of side c name ≡ Ok tt) ↔ NameAllowed side c name
name-exactly Reading c name = by_form (as_text c) name
name-exactly Writing c name = names.good name

-- ---- the addresses

-- none is there whose being dropped is `wanted` exactly if being dropped is the contrary for each
none-wanted : (w : ℕ) (wanted : Bool) (l : List (List ℕ)) → (has_of w wanted l ≡ false) ↔ All (λ a. unusable w a ≡ not wanted) l
unfolding has_of
none-wanted w wanted [] = (λ _. tt, λ _. refl)
none-wanted w wanted (a ∷ more) = go (unusable w a) wanted (none-wanted w wanted more)
  where
    go : (b wanted : Bool) {found : Bool} {X : Type 0} → (found ≡ false) ↔ X → (cond (beq b wanted) true found ≡ false) ↔ ((b ≡ not wanted) × X)
    go true true ih = (λ e. absurd (true≢false e), λ h. absurd (true≢false h.0))
    go true false ih = (λ e. (refl, ih.0 e), λ h. ih.1 h.1)
    go false true ih = (λ e. (refl, ih.0 e), λ h. ih.1 h.1)
    go false false ih = (λ e. absurd (true≢false e), λ h. absurd (true≢false (sym h.0)))

-- what is the same of each address of w octets is the same of all
all_same : {P Q : List ℕ → Type 0} (w : ℕ) → ((a : List ℕ) → length a ≡ w → P a ↔ Q a)
    → (l : List (List ℕ)) → All (λ a. length a ≡ w) l → All P l ↔ All Q l
all_same w each [] k = iff.rfl
all_same w each (a ∷ more) k = iff.and (each a k.0) (all_same w each more k.1)

-- the tests of 25 are the networks
module _ (w : ℕ) (wide : Width w) (s : List ℕ) where
  stays : (none_of w (list_of w s) ≡ true) ↔ (has_of w false (list_of w s) ≡ false)
  stays = let e = none_has w (list_of w s) in (λ z. not-true _ (e ∙ z), λ z. sym e ∙ ap not z)

  none_stays : (none_of w (list_of w s) ≡ true) ↔ All (Unusable w) (list_of w s)
  none_stays =
      iff.trans stays
      (iff.trans (none-wanted w false (list_of w s)) (all_same w (λ a k. unusable-exactly k wide) (list_of w s) (list-wide w s)))

  none-refused : (any_of w (list_of w s) ≡ false) ↔ All (λ a. Unusable w a → ⊥) (list_of w s)
  none-refused =
      iff.trans (none-wanted w true (list_of w s))
      (all_same w (λ a k. refuted (unusable w a) (unusable-exactly k wide)) (list_of w s) (list-wide w s))

  pub usable-exactly : (side : Side) → (refused_of side w (list_of w s) ≡ false) ↔ Usable side w s
  usable-exactly Reading = refuted (none_of w (list_of w s)) none_stays
  usable-exactly Writing = none-refused

-- ---- the fields

module _ (side : Side) (w : ℕ) (wide : Width w) (a p : List ℕ) where
  passed-tail-allowed : Bytes p → PassedTail side w a p → TailAllowed side w a p
  passed-tail-allowed octets t =
      record {
        whole = (t.some, t.whole);
        few = (t.few, t.short);
        usable = (usable-exactly w wide a side).0 t.usable;
        parameters_allowed = (params-exactly p octets).0 t.sound;
      }

  allowed-tail-passed : TailAllowed side w a p → PassedTail side w a p
  allowed-tail-passed t =
      let z = t.parameters_allowed in
      record {
        some = t.whole.0;
        whole = t.whole.1;
        few = t.few.0;
        short = t.few.1;
        usable = (usable-exactly w wide a side).1 t.usable;
        sound = allowed-fault p z.params z.ordered z.unhinted z.values;
      }

module _ (side : Side) (c : Carrier) (f : Fields) where
  pub allowed-passed : Allowed side c f → Passed side c f
  allowed-passed k =
      record {
        service = k.service;
        named = (name-exactly side c f.name).1 k.named;
        tail = λ e. allowed-tail-passed side (address_width c) (carrier-width c) f.addresses f.parameters (k.full_form e);
        name_only = k.name_only;
      }

  -- also of parameters that are no octets
  pub allowed-faultless : Allowed side c f → fault_of side c f ≡ 0
  allowed-faultless k = passed-fault side c f (allowed-passed k)

  module _ (octets : f.full ≡ true → Bytes f.parameters) where
    pub passed-allowed : Passed side c f → Allowed side c f
    passed-allowed k =
        record {
          service = k.service;
          named = (name-exactly side c f.name).0 k.named;
          full_form = λ e. passed-tail-allowed side (address_width c) (carrier-width c) f.addresses f.parameters (octets e) (k.tail e);
          name_only = k.name_only;
        }

    pub faultless-allowed : fault_of side c f ≡ 0 → Allowed side c f
    faultless-allowed e = passed-allowed (fault-passed side c f e)

    pub allowed-exactly : (fault_of side c f ≡ 0) ↔ Allowed side c f
    allowed-exactly = (faultless-allowed, allowed-faultless)

-- ---- the first rule that is broken: one number at most

-- no two numbers are the first broken rule's
abbrev Once : (ℕ → Type 0) → Type 0
Once Broken = (j k : ℕ) → Broken j → Broken k → j ≡ k

rule-once : (n : ℕ) (P : Type 0) (later : ℕ → Type 0) → Once later → Once (Rule n P later)
rule-once n P later l j k (inl a) (inl b) = a.1 ∙ sym b.1
rule-once n P later l j k (inl a) (inr b) = absurd (a.0 b.0)
rule-once n P later l j k (inr a) (inl b) = absurd (b.0 a.0)
rule-once n P later l j k (inr a) (inr b) = l j k a.1 b.1

unbroken-once : Once Unbroken
unbroken-once j k a b = a ∙ sym b

tail-once : (side : Side) (w : ℕ) (a p : List ℕ) → Once (TailBroken side w a p)
tail-once side w a p =
    rule-once _ _ _ (rule-once _ _ _ (rule-once _ _ _ (rule-once _ _ _ (rule-once _ _ _ (rule-once _ _ _ unbroken-once)))))

form-once : (full : Bool) (side : Side) (c : Carrier) (f : Fields) → Once (FormBroken full side c f)
form-once true side c f = tail-once side (address_width c) f.addresses f.parameters
form-once false side c f = rule-once _ _ _ unbroken-once

pub broken-once : (side : Side) (c : Carrier) (f : Fields) (j k : ℕ) → FirstBroken side c f j → FirstBroken side c f k → j ≡ k
broken-once side c f = rule-once _ _ _ (rule-once _ _ _ (form-once f.full side c f))

-- ---- and it is the judge's

-- m is the number of the first broken rule
abbrev Tells : ℕ → (ℕ → Type 0) → Type 0
Tells m Broken = (k : ℕ) → m ≡ k → Broken k

-- a test that fails exactly if the rule holds
rule_told : (n m : ℕ) (P : Type 0) (later : ℕ → Type 0) (b : Bool) → (b ≡ false) ↔ P → Tells m later → Tells (cond b n m) (Rule n P later)
rule_told n m P later true d l k e = inl (λ h. true≢false (d.1 h), sym e)
rule_told n m P later false d l k e = inr (d.0 refl, l k e)

-- two tests of one rule
both_told : (n m : ℕ) (P Q : Type 0) (later : ℕ → Type 0) (a b : Bool) → (a ≡ false) ↔ P → (b ≡ false) ↔ Q → Tells m later
    → Tells (cond a n (cond b n m)) (Rule n (P × Q) later)
both_told n m P Q later true b d e l k q = inl (λ h. true≢false (d.1 h.0), sym q)
both_told n m P Q later false true d e l k q = inl (λ h. true≢false (e.1 h.1), sym q)
both_told n m P Q later false false d e l k q = inr ((d.0 refl, e.0 refl), l k q)

-- a field is parameters in one way only
ordered-once : (p : List ℕ) (kvs lws : List Param) → Ordered p kvs → Ordered p lws → kvs ≡ lws
ordered-once p kvs lws a b = field-once kvs lws a.fits b.fits (sym a.laid ∙ b.laid)

parameters-told : (p : List ℕ) → Bytes p → Tells (params_fault p) (ParametersBroken p)
parameters-told p octets k q = subst (ParametersBroken p) q (go (verdict p octets))
  where
    none-hinted : (kvs : List Param) → Ordered p kvs → (Hinted kvs → ⊥) → (lws : List Param) → Ordered p lws → Hinted lws → ⊥
    none-hinted kvs w u lws x = subst (λ l. Hinted l → ⊥) (ordered-once p kvs lws w x) u

    all-allowed : (kvs : List Param) → Ordered p kvs → All (value.Allowed (keys kvs)) kvs
        → (lws : List Param) → Ordered p lws → All (value.Allowed (keys lws)) lws
    all-allowed kvs w v lws x = subst (λ l. All (value.Allowed (keys l)) l) (ordered-once p kvs lws w x) v

    go : {n : ℕ} → Verdict p n → ParametersBroken p n
    go (unordered e none) = inl (λ h. none h.0 h.1, e)
    go (hinted e kvs w h) = inr ((kvs, w), inl (λ u. u kvs w h, e))
    go (forbidden e kvs w u v) = inr ((kvs, w), inr (none-hinted kvs w u, inl (λ all. v (all kvs w), e)))
    go (accepted e a) =
        let w = a.ordered in
        inr ((a.params, w), inr (none-hinted a.params w a.unhinted, inr (all-allowed a.params w a.values, e)))

some-there : (n : ℕ) → (eqb n 0 ≡ false) ↔ (0 < n)
some-there n = (λ e. let z : n ≡ 0 → ⊥ = eqb-false _ _ e in omega arith, λ h. ne_eqb n 0 (λ (z : n ≡ 0). omega arith))

whole-number : (n : ℕ) → (not (eqb n 0) ≡ false) ↔ (n ≡ 0)
whole-number n = (λ e. eqb-true _ _ (not-false _ e), λ e. ap not (eq-eqb _ _ e))

at_most : (most n : ℕ) → (ltb most n ≡ false) ↔ (n ≤ most)
at_most most n = (ltb-false _ _, le-ltb _ _)

tail-told : (side : Side) (w : ℕ) (a p : List ℕ) → Width w → Bytes p → Tells (tail_fault side w a p) (TailBroken side w a p)
unfolding tail_fault
tail-told side w a p wide octets =
    both_told _ _ _ _ _ _ _ (some-there (length a)) (whole-number (length a % w))
    (both_told _ _ _ _ _ _ _ (at_most limit.addresses (length a / w)) (at_most limit.parameters (length p))
    (rule_told _ _ _ _ _ (usable-exactly w wide a side) (parameters-told p octets)))

module _ (side : Side) (c : Carrier) (f : Fields) (octets : f.full ≡ true → Bytes f.parameters) where
  abbrev tail : ℕ
  tail = tail_fault side (address_width c) f.addresses f.parameters

  form-told : (full : Bool) → f.full ≡ full → Tells (cond full tail (name_only_fault c)) (FormBroken full side c f)
  form-told true e = tail-told side (address_width c) f.addresses f.parameters (carrier-width c) (octets e)
  form-told false e = rule_told _ _ _ _ (as_text c) iff.rfl (λ k q. sym q)

  fault-told : Tells (fault_of side c f) (FirstBroken side c f)
  unfolding judged_of
  fault-told = go (eqb f.priority 0) (name_of side c f.name) refl refl
    where
      go : (zero : Bool) (n : Checked) → eqb f.priority 0 ≡ zero → name_of side c f.name ≡ n
          → Tells (cond zero (judged fault.priority 0)
          (on_name n (λ place. judged fault.name place) (judged (cond f.full tail (name_only_fault c)) 0))).fault (FirstBroken side c f)
      go true n z m k q = inl (λ s. s (eqb-true _ _ z), sym q)
      go false (Err place) z m k q =
          inr (eqb-false _ _ z, inl (λ h. let good = (name-exactly side c f.name).1 h in let apart : ◌≡◌ {A = ℕ} 0 1 = cc in omega arith, sym q))
      go false (Ok tt) z m k q = inr (eqb-false _ _ z, inr ((name-exactly side c f.name).0 m, form-told f.full refl k q))

-- the fault of fields is the first rule that they break
pub broken-exactly : (side : Side) (c : Carrier) (f : Fields) (k : ℕ) → (f.full ≡ true → Bytes f.parameters)
    → (fault_of side c f ≡ k) ↔ FirstBroken side c f k
broken-exactly side c f k octets =
    (fault-told side c f octets k, broken-once side c f (fault_of side c f) k (fault-told side c f octets (fault_of side c f) refl))
