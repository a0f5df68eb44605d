-- What a body's outcome says of its fields, and how many octets a record has. Assumes nothing.
use Rattle.std.specs.Prelude.{◌≡◌, refl, Bool, true, false, cond, ◌⊎◌, List, ◌++◌, ℕ, ◌+◌, ◌*◌, ◌/◌, ◌≤◌, ◌<◌, ◌-◌, eqb, length, Ok}
use Rattle.std.proofs.Common.{sym, ap, ◌∙◌, inl, inr, arith, mul-div_cancel, mul-pos, pos_of_ne-zero, length-append, eq-eqb, ne_eqb, eqb-true}
use Rattle.std.proofs.Math.Nat.{mul-mod_left}
use Rattle.std.proofs.lemmas.Bool.{eqb-false}
use Rattle.octets.specs.Numbers.{be}
use Rattle.numbers.specs.Fault as fault
use Rattle.numbers.specs.Limit as limit
use Rattle.carriers.specs.declared.Carrier.{Carrier}
use Rattle.carriers.specs.declared.Carrier.TheVariants.{Router}
use Rattle.carriers.specs.Carriers.{address_width, as_text}
use Rattle.carriers.proofs.CarriersLaws.{addresses-octets}
use Rattle.names.specs.Wire.{name_check}
use Rattle.names.specs.Exact as names
use Rattle.texts.specs.Texts.{wire_of}
use Rattle.texts.specs.Convert.{wire-length, wire-of-text}
use Rattle.addresses.specs.Addresses.{Width, list_of, kept_of}
use Rattle.addresses.specs.AddressesLaws.{wide-some, list_length, list-wide, list-flat, flat-length, kept-wide, kept-few, kept-usable}
use Rattle.blocks.specs.Block.{Fields, name_at}
use Rattle.blocks.specs.Parse.{Parsed, bad, fields, parse}
use Rattle.blocks.specs.Faults.{parse-fault}
use Rattle.judge.specs.declared.Side.TheVariants.{Reading, Writing}
use Rattle.judge.specs.Place.{Judged}
use Rattle.judge.specs.Place.{judged, from}
use Rattle.judge.specs.Judge.{name_of, judged_by, fault_of}
use Rattle.judge.specs.Passed.{PassedTail, Passed}
use Rattle.judge.specs.JudgeLaws.{carrier-width, fault-passed, read-text, read_name}
use Rattle.records.specs.Records.{faulty, kept, staying, keep_of, head_size, tail_size, mode_of, tail_of, record_by, record_of}
use Rattle.records.specs.Yielded.{outcome_of, yield_of}
use Rattle.records.specs.Parts.{name_in}

-- ---- what fields yield

module _ (c : Carrier) (at : ℕ) (f : Fields) where
  abbrev told : Judged
  told = from at (judged_by Reading c f)

  pub yield-kept : fault_of Reading c f ≡ 0 → yield_of c at f ≡ kept (keep_of c f)
  yield-kept e = simp (eq-eqb _ _ e)

  pub yield-faulty : (fault_of Reading c f ≡ 0 → ⊥) → yield_of c at f ≡ faulty told
  yield-faulty n = simp (ne_eqb _ _ n)

  yield-some : (j : Judged) → yield_of c at f ≡ faulty j → j.fault ≡ 0 → ⊥
  yield-some j = go (eqb (fault_of Reading c f) 0) refl
    where
      go : (b : Bool) → eqb (fault_of Reading c f) 0 ≡ b → cond b (kept (keep_of c f)) (faulty told) ≡ faulty j → j.fault ≡ 0 → ⊥
      go true t e z = let o : ◌≡◌ {A = ℕ} 0 1 = cc in omega arith
      go false t e z = let q : told ≡ j = cc in eqb-false _ _ t (ap (λ (j : Judged). j.fault) q ∙ z)

  yield-says : (r : Fields) → yield_of c at f ≡ kept r → (fault_of Reading c f ≡ 0) × (r ≡ keep_of c f)
  yield-says r = go (eqb (fault_of Reading c f) 0) refl
    where
      go : (b : Bool) → eqb (fault_of Reading c f) 0 ≡ b → cond b (kept (keep_of c f)) (faulty told) ≡ kept r
          → (fault_of Reading c f ≡ 0) × (r ≡ keep_of c f)
      go true t e = (eqb-true _ _ t, (cc))
      go false t e = let o : ◌≡◌ {A = ℕ} 0 1 = cc in absurd (omega arith)

-- ---- what a body yields

module _ (c : Carrier) (b : List ℕ) where
  pub outcome-bad : (k : ℕ) → parse c b ≡ bad k → outcome_of c b ≡ faulty (judged k 0)
  unfolding outcome_of
  outcome-bad k e = simp e

  pub outcome-fields : (f : Fields) → parse c b ≡ fields f → outcome_of c b ≡ yield_of c (name_at c (length f.addresses)) f
  unfolding outcome_of
  outcome-fields f e = simp e

  -- a fault has a number
  pub fault-some : (j : Judged) → outcome_of c b ≡ faulty j → j.fault ≡ 0 → ⊥
  fault-some j e z = go (parse c b) refl
    where
      layout : (k : ℕ) → k ≡ 0 → (k ≡ fault.field) ⊎ ((c ≡ Router) × (k ≡ fault.padding)) → ⊥
      layout k z (inl h) = omega arith
      layout k z (inr h) = omega (arith, h.1)

      go : (p : Parsed) → parse c b ≡ p → ⊥
      go (bad k) t =
          let o = outcome-bad k t in
          let q : judged k 0 ≡ j = cc in
          layout k (ap (λ (j : Judged). j.fault) q ∙ z) (parse-fault c b k t)
      go (fields f) t = yield-some c (name_at c (length f.addresses)) f j (sym (outcome-fields f t) ∙ e) z

  -- a body yields a record exactly if it splits into fields that pass the judge
  pub outcome-kept : (r : Fields) → outcome_of c b ≡ kept r → (f : Fields) × (parse c b ≡ fields f) × (fault_of Reading c f ≡ 0) × (r ≡ keep_of c f)
  outcome-kept r e = go (parse c b) refl
    where
      go : (p : Parsed) → parse c b ≡ p → (f : Fields) × (parse c b ≡ fields f) × (fault_of Reading c f ≡ 0) × (r ≡ keep_of c f)
      go (bad j) t = let q = outcome-bad j t in let o : ◌≡◌ {A = ℕ} 0 1 = cc in absurd (omega arith)
      go (fields f) t = let s = yield-says c (name_at c (length f.addresses)) f r (sym (outcome-fields f t) ∙ e) in (f, t, s.0, s.1)

  pub kept-outcome : (r f : Fields) → parse c b ≡ fields f → fault_of Reading c f ≡ 0 → r ≡ keep_of c f → outcome_of c b ≡ kept r
  kept-outcome r f p e q = outcome-fields f p ∙ yield-kept c (name_at c (length f.addresses)) f e ∙ ap kept (sym q)

-- ---- how many octets a record has

pub length-by : (w : ℕ) (r : Fields)
    → length (record_by w r) ≡ head_size + length r.name + cond r.full (tail_size + length r.addresses + length r.parameters) 0
length-by w r = go r.full
  where
    go : (full : Bool)
        → length
        (be 2 r.priority
        ++ (be 4 r.lifetime
        ++ (be 1 (mode_of full)
        ++ (be 1 (length r.name)
        ++ (r.name
        ++ tail_of w full r.addresses r.parameters)))))
        ≡ head_size + length r.name + cond full (tail_size + length r.addresses + length r.parameters) 0
    go true = simp length-append (omega arith)
    go false = simp length-append (omega arith)

pub length-record : (c : Carrier) (r : Fields)
    → length (record_of c r) ≡ head_size + length r.name + cond r.full (tail_size + length r.addresses + length r.parameters) 0
unfolding record_of
length-record c r = length-by (address_width c) r

-- the addresses that stay have w octets each
pub staying-length : (w : ℕ) (a : List ℕ) → length (staying w a) ≡ length (kept_of w (list_of w a)) * w
staying-length w a = flat-length w (kept_of w (list_of w a)) (kept-wide w (list_of w a) (list-wide w a))

-- how many stay, by the octets that were written
pub staying-count : (w : ℕ) (a : List ℕ) (from next : ℕ) → 0 < w → next ≡ from + length (staying w a)
    → (next - from) / w ≡ length (kept_of w (list_of w a))
staying-count w a from next p e =
    let size : next - from ≡ length (kept_of w (list_of w a)) * w = omega (arith, staying-length w a) in
    ap (λ (n : ℕ). n / w) size ∙ mul-div_cancel (length (kept_of w (list_of w a))) p

-- a name that is read has at most 255 octets in wire form
pub name-small : (c : Carrier) (name : List ℕ) → name_of Reading c name ≡ Ok tt → length (name_in c name) ≤ 255
name-small c name e = go (as_text c) refl
  where
    go : (text : Bool) → as_text c ≡ text → length (cond text (wire_of name) name) ≤ 255
    go true t = let h = (read-text c name t e).short in rw wire-length (omega arith)
    go false t = (read_name c name t e).short

-- of 63 addresses at most 63 stay
pub kept-count-small : (w : ℕ) (a : List ℕ) → length a / w ≤ limit.addresses → length (kept_of w (list_of w a)) ≤ limit.addresses
kept-count-small w a h = let k = kept-few w (list_of w a) in let l = list_length w a in omega arith

-- with a name of 255, 63 addresses of 16, parameters of 1,024
pub kept_small : (c : Carrier) (f : Fields) → Passed Reading c f → length (record_of c (keep_of c f)) ≤ limit.record_size
kept_small c f passed = rw length-record (go f.full refl)
  where
    go : (full : Bool) → f.full ≡ full
        → head_size + length (name_in c f.name) + cond full (tail_size + length (staying (address_width c) f.addresses) + length f.parameters) 0
        ≤ limit.record_size
    go true u =
        let w : ℕ = address_width c in
        let t = passed.tail u in
        let n = name-small c f.name passed.named in
        let s = staying-length w f.addresses in
        omega (arith, t.short, addresses-octets c (kept-count-small w f.addresses t.few) refl)
    go false u = let n = name-small c f.name passed.named in omega arith

pub record-small : (c : Carrier) (b : List ℕ) (r : Fields) → outcome_of c b ≡ kept r → length (record_of c r) ≤ limit.record_size
record-small c b r e =
    let k = outcome-kept c b r e in
    rw k.3 (kept_small c k.0 (fault-passed Reading c k.0 k.2))

-- ---- what reading keeps, writing takes

kept-named : (c : Carrier) (name : List ℕ) → name_of Reading c name ≡ Ok tt → name_of Writing c (name_in c name) ≡ Ok tt
kept-named c name e = go (as_text c) refl
  where
    go : (text : Bool) → as_text c ≡ text → name_check (cond text (wire_of name) name) ≡ Ok tt
    go true t = (names.good (wire_of name)).1 (wire-of-text name (read-text c name t e))
    go false t = (names.good name).1 (read_name c name t e)

kept-tail : (w : ℕ) (a q : List ℕ) → Width w → PassedTail Reading w a q → PassedTail Writing w (staying w a) q
kept-tail w a q wide t =
    let ls : List (List ℕ) = kept_of w (list_of w a) in
    let some : 0 < w = wide-some wide in
    let s = staying-length w a in
    let one : 0 < length ls = pos_of_ne-zero (eqb-false _ _ t.usable) in
    record {
      some = rw s (mul-pos one some);
      whole = rw s (mul-mod_left (length ls) w);
      few = rw (s, mul-div_cancel (length ls) some) (kept-count-small w a t.few);
      short = t.short;
      usable = rw (list-flat w ls some (kept-wide w (list_of w a) (list-wide w a))) (kept-usable w (list_of w a));
      sound = t.sound;
    }

pub kept-writable : (c : Carrier) (f : Fields) → Passed Reading c f → Passed Writing c (keep_of c f)
kept-writable c f k =
    record {
      service = k.service;
      named = kept-named c f.name k.named;
      tail = λ u. kept-tail (address_width c) f.addresses f.parameters (carrier-width c) (k.tail u);
      name_only = k.name_only;
    }
