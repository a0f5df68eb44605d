-- The octets of a record and of records, and each turn of the pass that weighs them. Assumes nothing.
use Rattle.std.specs.Prelude.{◌≡◌, refl, Bool, true, false, cond, ◌||◌, List, [], ◌∷◌, ◌++◌, map, ℕ, suc, ◌+◌, ◌*◌, ◌≤◌, length, ltb}
use Rattle.std.proofs.Common.{sym, ap, ap₂, ◌∙◌, subst, arith, eq-eqb, ne_eqb, length-append}
use Rattle.std.proofs.Math.Path.{subst⁻¹}
use Rattle.std.proofs.Math.Bool.{or_assoc, or-false}
use Rattle.numbers.specs.Limit as limit
use Rattle.numbers.specs.Fault as fault
use Rattle.numbers.specs.declared.Fault.{Fault}
use Rattle.numbers.specs.declared.Fault.TheVariants.{Field, Priority, Name, Addresses, Limit, Dropped, Parameters, Hint, Value, Padding}
use Rattle.octets.specs.Cases.{by_equal}
use Rattle.octets.specs.Lists.{All, flat}
use Rattle.octets.specs.Numbers.{Bytes}
use Rattle.carriers.specs.declared.Carrier.{Carrier}
use Rattle.carriers.specs.declared.Carrier.TheVariants.{Dhcp4}
use Rattle.carriers.specs.declared.Facts.{Facts}
use Rattle.carriers.specs.Carriers.{facts_of, address_width, in_eights, is_joined}
use Rattle.carriers.proofs.CarriersLaws.{few-addresses, eights-router}
use Rattle.names.specs.Right.{three}
use Rattle.blocks.specs.Block.{Fields, option_size}
use Rattle.blocks.specs.Parts.{fields_in}
use Rattle.judge.specs.declared.Side.TheVariants.{Writing}
use Rattle.judge.specs.declared.Flaw.{Flaw}
use Rattle.judge.specs.Place.{Judged, judged, from, flawed}
use Rattle.judge.specs.Judge.{judged_by, fault_of}
use Rattle.judge.specs.Passed.{Passed}
use Rattle.judge.specs.JudgeLaws.{fault-passed, written-name}
use Rattle.judge.proofs.PlaceLaws.{place-within}
use Rattle.layouts.specs.Writable.{overhead, option_octets, instance_octets}
use Rattle.layouts.specs.Layouts.{own_option, instance_of, joined_of, stream_of}
use Rattle.layouts.specs.LayoutsLaws.{header-small, own-length, instance-length, body-small}
use Rattle.records.specs.Records.{head_size, record_of}
use Rattle.sheets.specs.Sheets.{front_size}
use Rattle.taking.specs.declared.Record.{Record}
use Rattle.taking.specs.Sheet.{FitsTail, FitsRecord, IsSheet}
use Rattle.taking.specs.Spot.{spot_of}
use Rattle.taking.specs.Shown.{Shown}
use Rattle.taking.specs.Standing.{Step}
use Rattle.taking.specs.StandingLaws.{taken-standing}
use Rattle.taking.specs.TurnsLaws.{standing-done, shown-name, shown-next, shown-step, shown-first, shown-standing}
use Rattle.taking.specs.Exactly.{taken-sheet}
use Rattle.vetting.specs.Vetting.{first_fault, large, any_large, large_by}
use Rattle.vetting.specs.Weighing.{records_of, TakenAs, share_of, share_octets, weight_of, Light, most, Weighed, fault_alone, found_by, WeighsOne, Weighs, Weighing}

-- ---- octets

share-length : (c : Carrier) (r : Fields) → length (share_of c r) ≡ weight_of c r
share-length c r = go (is_joined c)
  where
    go : (j : Bool) → length (cond j (instance_of r) (own_option c r)) ≡ (let k = length r.name in let a = length r.addresses in let p = length r.parameters in
        cond j (instance_octets r.full k a p) (option_octets c r.full k a p))
    go true = instance-length r
    go false = own-length c r

pub stream-none : (c : Carrier) → stream_of c [] ≡ []
stream-none c = go (is_joined c)
  where
    go : (j : Bool) → cond j (joined_of []) (flat (map (own_option c) [])) ≡ []
    go true = refl
    go false = refl

pub stream-one : (c : Carrier) (r : Fields) (rs : List Fields) → stream_of c (r ∷ rs) ≡ share_of c r ++ stream_of c rs
stream-one c r rs = go (is_joined c)
  where
    go : (j : Bool) → cond j (joined_of (r ∷ rs)) (flat (map (own_option c) (r ∷ rs)))
        ≡ cond j (instance_of r) (own_option c r) ++ cond j (joined_of rs) (flat (map (own_option c) rs))
    go true = refl
    go false = refl

stream-length : (c : Carrier) (r : Fields) (rs : List Fields) → length (stream_of c (r ∷ rs)) ≡ length (share_of c r) + length (stream_of c rs)
stream-length c r rs = ap length (stream-one c r rs) ∙ length-append (share_of c r) (stream_of c rs)

-- in carrier 3 they are those of the option, rounded up
large-by : (c : Carrier) (r : Fields) → large_by c (weight_of c r) ≡ large c r
large-by c r = go (in_eights c) refl
  where
    go : (b : Bool) → in_eights c ≡ b → cond b (ltb limit.option (weight_of c r)) false ≡ cond b (ltb limit.option (option_size r)) false
    go true e = ap (λ (d : Carrier). ltb limit.option (weight_of d r)) (eights-router c e)
    go false e = refl

-- the two ways out of the code, by the carrier's row of the table
module _ (c : Carrier) {f : Facts} (row : f ≡ facts_of c) where
  pub large-eights : (n : ℕ) → f.eights ≡ true → ltb limit.option n ≡ large_by c n
  large-eights n e = let i : in_eights c ≡ true = ap (λ (f : Facts). f.eights) (sym row) ∙ e in rw i

  pub large-never : (n : ℕ) → f.eights ≡ false → false ≡ large_by c n
  large-never n e = let i : in_eights c ≡ false = ap (λ (f : Facts). f.eights) (sym row) ∙ e in rw i

  module _ (full : Bool) (n a p : ℕ) where
    pub share-joined : f.joined ≡ true → instance_octets full n a p ≡ share_octets c full n a p
    share-joined e = let i : is_joined c ≡ true = ap (λ (f : Facts). f.joined) (sym row) ∙ e in rw i

    pub share_other : f.joined ≡ false → option_octets c full n a p ≡ share_octets c full n a p
    share_other e = let i : is_joined c ≡ false = ap (λ (f : Facts). f.joined) (sym row) ∙ e in rw i

share-small : (c : Carrier) (full : Bool) (n a p : ℕ) → share_octets c full n a p ≤ 4 + (overhead + (n + a + p))
share-small c full n a p = go (is_joined c)
  where
    go : (j : Bool) → cond j (instance_octets full n a p) (option_octets c full n a p) ≤ 4 + (overhead + (n + a + p))
    go true = omega (arith, body-small Dhcp4 full n a p)
    go false = omega (arith, header-small c, body-small c full n a p)

-- ---- a record without a fault is small

passed-light : (c : Carrier) (r : Fields) → FitsRecord c r → fault_of Writing c r ≡ 0
    → Light (length r.name) (length r.addresses) (length r.parameters)
passed-light c r f e =
    let p : Passed Writing c r = fault-passed Writing c r e in
    let named = written-name c r.name p.named in
    let h : 2 ≤ length r.name = omega (arith, three named) in
    go h named.short r.full refl f.tail p
  where
    go : 2 ≤ length r.name → length r.name ≤ 255 → (full : Bool) → r.full ≡ full → FitsTail (address_width c) full r.addresses r.parameters
        → Passed Writing c r → Light (length r.name) (length r.addresses) (length r.parameters)
    go h k true u t p =
        let q = p.tail u in
        record { some = h; name = k; addresses = few-addresses c limit.addresses (length r.addresses) q.whole q.few; parameters = q.short }
    go h k false u t p = record { some = h; name = k; addresses = rw t.0 (omega arith); parameters = rw t.1 (omega arith) }

-- so are records that have a place in a sheet and no fault, one after another
pub stream-small : (c : Carrier) (rs : List Fields) → All (FitsRecord c) rs → All (λ r. fault_of Writing c r ≡ 0) rs → length (stream_of c rs) ≤ most * length rs
stream-small c [] f e = omega (arith, ap length (stream-none c))
stream-small c (r ∷ rs) f e =
    let l = passed-light c r f.0 e.0 in
    let k = share-small c r.full (length r.name) (length r.addresses) (length r.parameters) in
    omega (arith, stream-length c r rs, share-length c r, k, l, stream-small c rs f.1 e.1)

-- ---- one record

-- where there is no fault there is no place
none_from : (n : ℕ) (j : Judged) → j.fault ≡ 0 → from n j ≡ judged 0 0
none_from n j z = rw z

-- a fault has a number
pub fault-some : (f : Fault) → fault.number_of f ≡ 0 → ⊥
fault-some Field z = omega arith
fault-some Priority z = omega arith
fault-some Name z = omega arith
fault-some Addresses z = omega arith
fault-some Limit z = omega arith
fault-some Dropped z = omega arith
fault-some Parameters z = omega arith
fault-some Hint z = omega arith
fault-some Value z = omega arith
fault-some Padding z = omega arith

module _ (c : Carrier) (at : ℕ) (r : Fields) where
  -- the place is in the name
  pub place_inside : (w : Flaw) → flawed w ≡ judged_by Writing c r → w.place ≤ length r.name
  place_inside w e = let h = place-within Writing c r in omega (arith, h, ap (λ (j : Judged). j.place) e)

  pub weighs-faulty : (w v : Flaw) → flawed w ≡ judged_by Writing c r → flawed v ≡ from at (flawed w) → WeighsOne c at r (fault_alone (flawed v))
  weighs-faulty w v e q = record {
    first = q ∙ ap (from at) e;
    large_is = λ o. absurd (fault-some v.fault o);
    size_is = λ o. absurd (fault-some v.fault o);
    small = omega arith;
  }

  module _ (f : FitsRecord c r) (e : judged 0 0 ≡ judged_by Writing c r) where
    none : fault_of Writing c r ≡ 0
    none = ap (λ (j : Judged). j.fault) (sym e)

    pub light : Light (length r.name) (length r.addresses) (length r.parameters)
    light = passed-light c r f none

    pub weighs-passed : {big : Bool} {size : ℕ} → big ≡ large_by c size → size ≡ weight_of c r
        → WeighsOne c at r (record { fault = 0; place = 0; large = big; size = size })
    weighs-passed l k = record {
      first = sym (none_from at (judged_by Writing c r) none);
      large_is = λ _. l ∙ ap (large_by c) k ∙ large-by c r;
      size_is = λ _. k ∙ sym (share-length c r);
      small = omega (arith, k, share-small c r.full (length r.name) (length r.addresses) (length r.parameters), light);
    }

-- ---- the pass

module _ (c : Carrier) (at : ℕ) (r : Fields) (rs : List Fields) where
  pub first-passed : fault_of Writing c r ≡ 0 → first_fault c at (r ∷ rs) ≡ first_fault c (at + length (record_of c r)) rs
  unfolding first_fault
  first-passed e = rw (eq-eqb (fault_of Writing c r) 0 e)

  pub first_faulty : (fault_of Writing c r ≡ 0 → ⊥) → first_fault c at (r ∷ rs) ≡ from (at + head_size) (judged_by Writing c r)
  unfolding first_fault
  first_faulty n = rw (ne_eqb (fault_of Writing c r) 0 n)

first-none : (c : Carrier) (at : ℕ) → first_fault c at [] ≡ judged 0 0
unfolding first_fault
first-none c at = refl

large-one : (c : Carrier) (r : Fields) (rs : List Fields) → any_large c (r ∷ rs) ≡ (large c r || any_large c rs)
unfolding any_large
large-one c r rs = refl

-- where none is found, no record has one
pub first-faultless : (c : Carrier) (at : ℕ) (rs : List Fields) → (first_fault c at rs).fault ≡ 0 → All (λ r. fault_of Writing c r ≡ 0) rs
unfolding first_fault
first-faultless c at [] = λ _. tt
first-faultless c at (r ∷ rs) =
    let next : ℕ = at + length (record_of c r) in
    by_equal (λ j. j.fault ≡ 0 → All (λ r. fault_of Writing c r ≡ 0) (r ∷ rs)) (fault_of Writing c r) 0 (first_fault c next rs)
    (from (at + head_size) (judged_by Writing c r))
    (λ z e. (z, first-faultless c next rs e))
    (λ n e. absurd (n e))

large-none : (c : Carrier) → any_large c [] ≡ false
unfolding any_large
large-none c = refl

pub weighing-start : (c : Carrier) (s : List ℕ) → Bytes s → TakenAs c s → Weighing c s (records_of s) front_size false 0
weighing-start c s octets e =
    let t = taken-standing s e in
    let i : IsSheet s c (records_of s) = taken-sheet s c (records_of s) octets e in
    record {
      rest = records_of s;
      standing = t.0;
      fits = i.each;
      faults = refl;
      larges = refl;
      sizes = omega arith;
      small = omega (arith, t.1);
    }

module _ {c : Carrier} {s : List ℕ} {rs : List Fields} {at size : ℕ} {big : Bool} {x : Record} (w : Weighing c s rs at big size)
    (h : Shown s at (spot_of c s at) x) where
  abbrev weighing_step : Step c s at w.rest (spot_of c s at)
  weighing_step = shown-step c s at h w.standing

  first-is : fields_in x.parts ≡ weighing_step.first
  first-is = shown-first c s at h w.standing

  rest-fits : All (FitsRecord c) (weighing_step.first ∷ weighing_step.rest)
  rest-fits = subst (All (FitsRecord c)) weighing_step.are w.fits

  pub weighing-fits : FitsRecord c (fields_in x.parts)
  weighing-fits = subst⁻¹ (FitsRecord c) first-is rest-fits.0

  next-at : x.next ≡ at + length (record_of c weighing_step.first)
  next-at = shown-next c s at h ∙ ap (λ (r : Fields). at + length (record_of c r)) first-is

  module _ {one : Weighed} (o : WeighsOne c x.name (fields_in x.parts) one) where
    found-is : found_by one ≡ from (at + head_size) (judged_by Writing c weighing_step.first)
    found-is = o.first ∙ ap₂ (λ (n : ℕ) (r : Fields). from n (judged_by Writing c r)) (shown-name c s at h) first-is

    fault-is : one.fault ≡ fault_of Writing c weighing_step.first
    fault-is = ap (λ (j : Judged). j.fault) found-is

    pub weighing-faulty : (f : Flaw) → one ≡ fault_alone (flawed f) → Weighs c rs (fault_alone (flawed f))
    weighing-faulty f e =
        let n : one.fault ≡ 0 → ⊥ = λ z. fault-some f.fault (ap (λ (x : Weighed). x.fault) (sym e) ∙ z) in
        let t = weighing_step in
        record {
          first =
              ap found_by (sym e)
              ∙ found-is
              ∙ sym (first_faulty c at t.first t.rest (λ q. n (fault-is ∙ q)))
              ∙ ap (first_fault c at) (sym t.are)
              ∙ sym w.faults;
          large_is = λ q. absurd (fault-some f.fault q);
          size_is = λ q. absurd (fault-some f.fault q);
        }

    pub weighing-next : {l : Bool} → one.fault ≡ 0 → l ≡ (big || one.large) → Weighing c s rs x.next l (size + one.size)
    weighing-next {l} z k =
        let t = weighing_step in
        let r : Fields = t.first in
        let f = first-passed c at r t.rest (sym fault-is ∙ z) in
        let lr : one.large ≡ large c r = o.large_is z ∙ ap (large c) first-is in
        let sr : one.size ≡ length (share_of c r) = o.size_is z ∙ ap (λ (x : Fields). length (share_of c x)) first-is in
        let n : length w.rest ≡ suc (length t.rest) = ap length t.are in
        record {
          rest = t.rest;
          standing = shown-standing c s at h w.standing;
          fits = rest-fits.1;
          faults = w.faults ∙ ap (first_fault c at) t.are ∙ f ∙ ap (λ (n : ℕ). first_fault c n t.rest) (sym next-at);
          larges =
              w.larges
              ∙ ap (λ (x : List Fields). big || any_large c x) t.are
              ∙ ap (λ (x : Bool). big || x) (large-one c r t.rest)
              ∙ sym (or_assoc big (large c r) (any_large c t.rest))
              ∙ ap (λ (x : Bool). (big || x) || any_large c t.rest) (sym lr)
              ∙ ap (λ (x : Bool). x || any_large c t.rest) (sym k);
          sizes = omega (arith, w.sizes, ap (λ (x : List Fields). length (stream_of c x)) t.are, stream-length c r t.rest, sr);
          small = omega (arith, w.small, o.small);
        }

-- where none is left
pub weighing-end : {c : Carrier} {s : List ℕ} {rs : List Fields} {at size : ℕ} {big : Bool} → Weighing c s rs at big size → (spot_of c s at).good ≡ false
    → Weighs c rs (record { fault = 0; place = 0; large = big; size = size })
weighing-end {c} {s} {rs} {at} {size} {big} w h =
    let z : w.rest ≡ [] = standing-done w.standing h in
    record {
      first = sym (first-none c at) ∙ ap (first_fault c at) (sym z) ∙ sym w.faults;
      large_is = λ _.
          sym (or-false big)
          ∙ ap (λ (x : Bool). big || x) (sym (large-none c))
          ∙ ap (λ (x : List Fields). big || any_large c x) (sym z)
          ∙ sym w.larges;
      size_is = λ _. omega (arith, w.sizes, ap (λ (x : List Fields). length (stream_of c x)) z, ap length (stream-none c));
    }
