-- Vetting accepts exactly the sheets whose records are allowed, and refuses by 2, 40, 41, 42, 4, 43 or 21 to 28, of which only 22 has a place; each
-- way out of the code agrees with `vet_of`, and what its answer says. Assumes nothing.
use Rattle.std.specs.Prelude.{◌≡◌, ◌⊎◌, ◌↔◌, Bool, true}
use Rattle.std.proofs.Math.Path.{refl, sym, ap}
use Rattle.std.proofs.Common.{◌∙◌, inr, arith, ne_eqb}
use Rattle.std.proofs.Math.Logic.{inl}
use mathlib.Core.List.{List, [], ◌∷◌, ◌++◌}
use Prim.Native.Nat.{ℕ, ◌+◌, ◌*◌, ◌/◌, ◌≤◌}
use Rattle.std.proofs.Math.ListN.{length}
use Rattle.octets.specs.Cases.{by_equal}
use Rattle.octets.specs.Numbers.{be, Octet, Bytes}
use Rattle.octets.specs.Lists.{All}
use Rattle.octets.specs.ListsLaws.{all_left, all_right}
use Rattle.numbers.specs.Fault as fault
use Rattle.numbers.specs.Limit as limit
use Rattle.carriers.specs.declared.Carrier.{Carrier}
use Rattle.carriers.specs.Carriers.{address_width}
use Rattle.blocks.specs.Block.{Fields}
use Rattle.judge.specs.declared.Side.TheVariants.{Writing}
use Rattle.judge.specs.declared.Flaw.{Flaw}
use Rattle.judge.specs.Place.{Judged, from, flawed}
use Rattle.judge.specs.Judge.{judged_by, fault_of}
use Rattle.judge.specs.Allowed.{Allowed}
use Rattle.judge.proofs.AllowedLaws as judge
use Rattle.judge.specs.Numbered.{fault-number}
use Rattle.judge.specs.Passed.{FaultNumber}
use Rattle.judge.proofs.PlaceLaws.{place_none}
use Rattle.records.specs.Records.{head_size, mode_of, tail_of, record_of}
use Rattle.sheets.specs.Sheets.{front_size, front_of, sheet_of}
use Rattle.sheets.specs.Sheets as sheets
use Rattle.taking.specs.Taking.{Taken, take_of}
use Rattle.taking.specs.Taking as taking
use Rattle.taking.specs.Took.{took_of}
use Rattle.taking.specs.Took as took
use Rattle.taking.specs.Sheet.{IsSheet}
use Rattle.taking.specs.TakenLaws.{Refusing, refused-by}
use Rattle.taking.specs.StandingLaws.{took-refused, took-sheet}
use Rattle.taking.specs.Exactly.{taken-sheet, sheet-taken}
use Rattle.vetting.specs.Vetting.{Vetted, refuse, sheet, first_fault, vet_records, vet_taken, vet_of, any_large, Refused, Sheet, told}
use Rattle.layouts.specs.Layouts.{stream_of}
use Rattle.vetting.specs.Weighing.{records_in, records_of, TakenAs, most, fault_alone, Weighs}
use Rattle.vetting.proofs.WeighingLaws.{stream-small, first-faultless, fault-some}

-- ---- a sheet of octets has parameters of octets

parameters-octets : (c : Carrier) (r : Fields) → Bytes (record_of c r) → r.full ≡ true → Bytes r.parameters
unfolding record_of
parameters-octets c r h u =
    let a : List ℕ = r.addresses in
    let q : List ℕ = r.parameters in
    let tail : List ℕ = tail_of (address_width c) r.full a q in
    let counted : List ℕ = be 1 (length r.name) ++ (r.name ++ tail) in
    let mode : List ℕ = be 1 (mode_of r.full) ++ counted in
    let after : Bytes tail =
    all_right Octet r.name tail
    (all_right Octet (be 1 (length r.name)) (r.name ++ tail)
    (all_right Octet (be 1 (mode_of r.full)) counted
    (all_right Octet (be 4 r.lifetime) mode
    (all_right Octet (be 2 r.priority) (be 4 r.lifetime ++ mode) h)))) in
    all_right Octet (be 2 (length q)) q
    (all_right Octet a (be 2 (length q) ++ q)
    (all_right Octet (be 1 (length a / address_width c)) (a ++ (be 2 (length q) ++ q)) (rw u at after)))

-- where a record has parameters, they are octets
abbrev pub OfOctets : Fields → Type 0
OfOctets r = r.full ≡ true → Bytes r.parameters

records-octets : (c : Carrier) (rs : List Fields) → Bytes (sheets.records_of c rs) → All OfOctets rs
records-octets c [] h = tt
records-octets c (r ∷ rs) h =
    let more : List ℕ = sheets.records_of c rs in
    (parameters-octets c r (all_left Octet (record_of c r) more h), records-octets c rs (all_right Octet (record_of c r) more h))

pub sheet-octets : (s : List ℕ) (c : Carrier) (rs : List Fields) → Bytes s → IsSheet s c rs → All OfOctets rs
unfolding sheet_of
sheet-octets s c rs h i = records-octets c rs (all_right Octet (front_of c (length rs)) (sheets.records_of c rs) (rw i.is at h))

-- ---- records without a fault

module _ (c : Carrier) where
  faultless-allowed : (rs : List Fields) → All OfOctets rs → All (λ r. fault_of Writing c r ≡ 0) rs → All (Allowed Writing c) rs
  faultless-allowed [] o e = tt
  faultless-allowed (r ∷ rs) o e = (judge.faultless-allowed Writing c r o.0 e.0, faultless-allowed rs o.1 e.1)

  pub allowed-faultless : (at : ℕ) (rs : List Fields) → All (Allowed Writing c) rs → (first_fault c at rs).fault ≡ 0
  unfolding first_fault
  allowed-faultless at [] h = refl
  allowed-faultless at (r ∷ rs) h =
      rw (judge.allowed-faultless Writing c r h.0) (allowed-faultless (at + length (record_of c r)) rs h.1)

  first-number : (at : ℕ) (rs : List Fields) → FaultNumber (first_fault c at rs).fault
  unfolding first_fault
  first-number at [] = inl refl
  first-number at (r ∷ rs) =
      let next : ℕ = at + length (record_of c r) in
      by_equal (λ j. FaultNumber j.fault) (fault_of Writing c r) 0 (first_fault c next rs) (from (at + head_size) (judged_by Writing c r))
      (λ _. first-number next rs)
      (λ _. fault-number Writing c r)

  -- a fault other than 22 has no place
  first-nowhere : (at : ℕ) (rs : List Fields) → ((first_fault c at rs).fault ≡ fault.name → ⊥) → (first_fault c at rs).place ≡ 0
  unfolding first_fault
  first-nowhere at [] = λ _. refl
  first-nowhere at (r ∷ rs) =
      let next : ℕ = at + length (record_of c r) in
      let j : Judged = judged_by Writing c r in
      by_equal (λ j. (j.fault ≡ fault.name → ⊥) → j.place ≡ 0) j.fault 0 (first_fault c next rs) (from (at + head_size) j)
      (λ _. first-nowhere next rs)
      (λ _ n. sym (place_none (at + head_size) j.fault j.place n))

-- ---- the test

module _ (s : List ℕ) where
  -- what holds of each refusal and of a sheet without a fault holds
  by-vetted : (P : Vetted → Type 0) → ((k : ℕ) → Refusing k → P (refuse k 0))
      → ((k p : ℕ) → FaultNumber k → (k ≡ 0 → ⊥) → ((k ≡ fault.name → ⊥) → p ≡ 0) → P (refuse k p))
      → ((c : Carrier) (rs : List Fields) → take_of s ≡ taking.sheet c rs → (first_fault c front_size rs).fault ≡ 0 → P (sheet c rs))
      → P (vet_of s)
  unfolding vet_of
  by-vetted P refusing faulty good = go (take_of s) refl
    where
      go : (t : Taken) → take_of s ≡ t → P (vet_taken t)
      go (taking.refuse k) e = refusing k (refused-by s k e)
      go (taking.sheet c rs) e =
          let j : Judged = first_fault c front_size rs in
          by_equal P j.fault 0 (sheet c rs) (refuse j.fault j.place) (good c rs e)
          (λ n. faulty j.fault j.place (first-number c front_size rs) n (first-nowhere c front_size rs))

  pub vetted-taken : {c : Carrier} {rs : List Fields} → vet_of s ≡ sheet c rs → (take_of s ≡ taking.sheet c rs) × ((first_fault c front_size rs).fault ≡ 0)
  vetted-taken {c} {rs} =
      by-vetted (λ v. v ≡ sheet c rs → (take_of s ≡ taking.sheet c rs) × ((first_fault c front_size rs).fault ≡ 0))
      (λ k h e. let z : ◌≡◌ {A = ℕ} 0 1 = cc in absurd (omega arith))
      (λ k p h n o e. let z : ◌≡◌ {A = ℕ} 0 1 = cc in absurd (omega arith))
      (λ d qs t f e. let i : d ≡ c = cc in let j : qs ≡ rs = cc in (rw (← i, ← j) t, rw (← i, ← j) f))

  pub taken-vetted : {c : Carrier} {rs : List Fields} → take_of s ≡ taking.sheet c rs → (first_fault c front_size rs).fault ≡ 0 → vet_of s ≡ sheet c rs
  unfolding vet_of
  taken-vetted e z = rw (e, z)

  -- vetting accepts octets as carrier c and records rs exactly if they are the sheet of these, and each record is allowed (21 to 28)
  pub vet-exactly : (c : Carrier) (rs : List Fields) → Bytes s → (vet_of s ≡ sheet c rs) ↔ (IsSheet s c rs × All (Allowed Writing c) rs)
  vet-exactly c rs octets = (accepts, λ g. taken-vetted (sheet-taken s c rs g.0) (allowed-faultless c front_size rs g.1))
    where
      accepts : vet_of s ≡ sheet c rs → IsSheet s c rs × All (Allowed Writing c) rs
      accepts e =
          let t = vetted-taken e in
          let i : IsSheet s c rs = taken-sheet s c rs octets t.0 in
          (i, faultless-allowed c rs (sheet-octets s c rs octets i) (first-faultless c front_size rs t.1))

  -- ---- the refusals: 2, 40, 41, 42, 4, 43, and 21 to 28

  pub vetted-by : (k p : ℕ) → vet_of s ≡ refuse k p → Refusing k ⊎ (FaultNumber k × (k ≡ 0 → ⊥))
  vetted-by k p =
      by-vetted (λ v. v ≡ refuse k p → Refusing k ⊎ (FaultNumber k × (k ≡ 0 → ⊥)))
      (λ j h e. let i : j ≡ k = cc in inl (rw (← i) h))
      (λ j q h n o e. let i : j ≡ k = cc in inr (rw (← i) h, rw (← i) n))
      (λ c rs t f e. let z : ◌≡◌ {A = ℕ} 0 1 = cc in absurd (omega arith))

  -- only 22 has a place
  pub vetted-nowhere : (k p : ℕ) → vet_of s ≡ refuse k p → (k ≡ fault.name → ⊥) → p ≡ 0
  vetted-nowhere k p =
      by-vetted (λ v. v ≡ refuse k p → (k ≡ fault.name → ⊥) → p ≡ 0)
      (λ j h e m. cc)
      (λ j q h n o e m. let i : j ≡ k = cc in let l : q ≡ p = cc in sym l ∙ o (λ z. m (sym i ∙ z)))
      (λ c rs t f e m. let z : ◌≡◌ {A = ℕ} 0 1 = cc in absurd (omega arith))

-- ---- the ways out of the code

module _ {c : Carrier} {rs : List Fields} where
  vet-faulty : (f : Flaw) → Weighs c rs (fault_alone (flawed f)) → Refused (fault.number_of f.fault) f.place ≡ told (vet_records c rs)
  vet-faulty f g = rw (← g.first, ne_eqb (fault.number_of f.fault) 0 (fault-some f.fault))

  vet-passed : {n size : ℕ} {big : Bool} → Weighs c rs (record { fault = 0; place = 0; large = big; size = size }) → n ≡ length rs
      → Sheet c n big size ≡ told (vet_records c rs)
  vet-passed g e =
      let f : (first_fault c front_size rs).fault ≡ 0 = ap (λ (j : Judged). j.fault) (sym g.first) in
      rw (f, e, g.large_is refl, g.size_is refl)

module _ (s : List ℕ) where
  pub vet-refused : {k : ℕ} → took.Refused k ≡ took_of (take_of s) → Refused k 0 ≡ told (vet_of s)
  unfolding vet_of
  vet-refused e = rw (took-refused s e)

  module _ {c : Carrier} {n : ℕ} (e : took.Sheet c n ≡ took_of (take_of s)) where
    pub vet-taken : TakenAs c s × (n ≡ length (records_of s))
    vet-taken =
        let k = took-sheet s e in
        let i : records_of s ≡ k.0 = ap records_in k.1 in
        (k.1 ∙ ap (taking.sheet c) (sym i), sym k.2 ∙ ap length (sym i))

    vet-records : told (vet_records c (records_of s)) ≡ told (vet_of s)
    unfolding vet_of
    vet-records = ap (λ (t : Taken). told (vet_taken t)) (sym vet-taken.0)

    pub vet-wrong : (f : Flaw) → Weighs c (records_of s) (fault_alone (flawed f)) → Refused (fault.number_of f.fault) f.place ≡ told (vet_of s)
    vet-wrong f g = vet-faulty f g ∙ vet-records

    pub vet-right : {size : ℕ} {big : Bool} → Weighs c (records_of s) (record { fault = 0; place = 0; large = big; size = size })
        → Sheet c n big size ≡ told (vet_of s)
    vet-right g = vet-passed g vet-taken.1 ∙ vet-records

-- ---- what the answer of `vet` says

pub told-refused : (s : List ℕ) {k p : ℕ} → Refused k p ≡ told (vet_of s) → vet_of s ≡ refuse k p
told-refused s {k} {p} = go (vet_of s)
  where
    go : (v : Vetted) → Refused k p ≡ told v → v ≡ refuse k p
    go (refuse j q) e = cc
    go (sheet c rs) e = let z : ◌≡◌ {A = ℕ} 0 1 = cc in absurd (omega arith)

-- the sheet is that of some records, of which the numbers speak
pub record Says (s : List ℕ) (c : Carrier) (count : ℕ) (large : Bool) (size : ℕ) : Type 0 where
  pub records : List Fields
  pub vetted : vet_of s ≡ sheet c records
  pub counts : count ≡ length records
  pub larges : large ≡ any_large c records
  pub sizes : size ≡ length (stream_of c records)

pub told-sheet : (s : List ℕ) {c : Carrier} {n : ℕ} {l : Bool} {z : ℕ} → Sheet c n l z ≡ told (vet_of s) → Says s c n l z
told-sheet s {c} {n} {l} {z} = go (vet_of s) refl
  where
    go : (v : Vetted) → vet_of s ≡ v → Sheet c n l z ≡ told v → Says s c n l z
    go (refuse k p) i e = let z : ◌≡◌ {A = ℕ} 0 1 = cc in absurd (omega arith)
    go (sheet d rs) i e = record { records = rs; vetted = cc; counts = cc; larges = cc; sizes = cc }

-- the octets of at most 16 records
pub vetted-small : (s : List ℕ) {c : Carrier} {rs : List Fields} → Bytes s → vet_of s ≡ sheet c rs → length (stream_of c rs) ≤ most * limit.records
vetted-small s {c} {rs} octets e =
    let t = vetted-taken s e in
    let i : IsSheet s c rs = taken-sheet s c rs octets t.0 in
    omega (arith, stream-small c rs i.each (first-faultless c front_size rs t.1), i.few)
