-- The records of a sheet from an index on (`Standing c s at rest`): those of a taken sheet stand at its head's end (`took-sheet`, `taken-standing`), and
-- the first of them is followed by the others (`standing-step`). Assumes nothing.
use Rattle.std.specs.Prelude.{◌≡◌, refl, Bool, true, false, List, [], ◌∷◌, ℕ, zero, suc, ◌-◌, ◌≤◌, ◌<◌, ltb, length, get_or, drop}
use Rattle.std.proofs.Common.{sym, ap, ◌∙◌, arith, lt-ltb, ltb-true, ltb-false, length-drop}
use Rattle.std.proofs.lemmas.Bool.{false≢true}
use Rattle.numbers.specs.Limit as limit
use Rattle.carriers.specs.declared.Carrier.{Carrier}
use Rattle.blocks.specs.Block.{Fields}
use Rattle.records.specs.Records.{head_size}
use Rattle.sheets.specs.Sheets.{front_size, count_at}
use Rattle.taking.specs.Taking.{Records, records, onto, records_from, Taken, refuse, sheet, take_of}
use Rattle.taking.specs.Taking as taking
use Rattle.taking.specs.Took.{Refused, Sheet, took_of}
use Rattle.taking.specs.Spot.{Spot, spot_of, fields_at}
use Rattle.taking.specs.SpotLaws.{spot-inside}
use Rattle.taking.specs.TakenLaws.{Passed, taken-passed}
use Rattle.taking.specs.WalkLaws.{by-record, records-at}
use Rattle.taking.specs.Standing.{Standing, none, one, Stands, Step}

-- ---- one record and the rest

-- past the end no record stands
pub past : (c : Carrier) (s : List ℕ) (at : ℕ) → length s ≤ at → (spot_of c s at).good ≡ false
unfolding spot_of
past c s at h =
    let k : length s - at < head_size = omega arith in
    rw (lt-ltb (length s - at) head_size k)

-- what stands at a spot is the record
pub stands-is : {s : List ℕ} {at : ℕ} {r : Fields} {p : Spot} → Stands s at r p → fields_at s p ≡ r
stands-is h = rw (h.priority, h.lifetime, h.full, h.name, h.addresses, h.parameters)

module _ {c : Carrier} {s : List ℕ} {at : ℕ} where
  module _ {r : Fields} {rs : List Fields} where
    -- a record has octets
    pub standing-before : Standing c s at (r ∷ rs) → at < length s
    standing-before (one g f h) = go (ltb at (length s)) refl
      where
        go : (b : Bool) → ltb at (length s) ≡ b → at < length s
        go true t = ltb-true _ _ t
        go false t = absurd (false≢true (sym (past c s at (ltb-false _ _ t)) ∙ g))

    pub standing-record : {p : Spot} → p ≡ spot_of c s at → Standing c s at (r ∷ rs) → Stands s at r p
    standing-record {p} e (one g f h) =
        let same : fields_at s p ≡ r = ap (fields_at s) e ∙ f in
        record {
          good = ap (λ (p : Spot). p.good) e ∙ g;
          priority = ap (λ (r : Fields). r.priority) same;
          lifetime = ap (λ (r : Fields). r.lifetime) same;
          full = ap (λ (r : Fields). r.full) same;
          name = ap (λ (r : Fields). r.name) same;
          addresses = ap (λ (r : Fields). r.addresses) same;
          parameters = ap (λ (r : Fields). r.parameters) same;
          inside = let k : at < length s = standing-before (one g f h) in rw e (spot-inside c s at (omega arith));
        }

    pub standing-rest : {p : Spot} → p ≡ spot_of c s at → Standing c s at (r ∷ rs) → Standing c s p.next rs
    standing-rest e (one g f h) = rw e h

  -- ---- by the index: within the sheet, at its end, before its end

  pub standing-within : {rs : List Fields} → Standing c s at rs → at ≤ length s
  standing-within (none e) = omega arith
  standing-within (one g f h) = let k : at < length s = standing-before (one g f h) in omega arith

  pub standing-none : {rs : List Fields} → Standing c s at rs → length s ≤ at → rs ≡ []
  standing-none (none e) k = refl
  standing-none (one g f h) k = let j : at < length s = standing-before (one g f h) in absurd (omega arith)

  -- a turn of the loop
  pub standing-step : {rs : List Fields} {p : Spot} → p ≡ spot_of c s at → Standing c s at rs → at < length s → Step c s at rs p
  standing-step e (none i) k = absurd (omega arith)
  standing-step e (one {r = r} {rs = rs} g f h) k =
      record { first = r; rest = rs; are = refl; stands = standing-record e (one g f h); standing = standing-rest e (one g f h) }

-- ---- a taken sheet

-- the records found from an index on are those that stand there, as many as were sought
abbrev pub Found : Carrier → List ℕ → ℕ → ℕ → Records → Type 0
Found c s at n (taking.none) = Unit {0}
Found c s at n (records rs) = Standing c s at rs × (length rs ≡ n)

pub found : (c : Carrier) (s : List ℕ) (n least at : ℕ) → at ≤ length s → Found c s at n (records_from c n least (drop at s))
unfolding records_from
found c s zero least at h = go (drop at s) (length-drop at s)
  where
    go : (l : List ℕ) → length l ≡ length s - at → Found c s at zero (records_from c zero least l)
    go [] e = let i : at ≡ length s = omega arith in (none i, refl)
    go (x ∷ xs) e = tt
found c s (suc n) least at h =
    let p : Spot = spot_of c s at in
    rw (records-at c n least s at h)
    (by-record (Found c s at (suc n)) c least s p (λ r l. onto r (records_from c n r.priority l)) tt (λ g _ _.
    go g (records_from c n p.priority (drop p.next s)) (found c s n p.priority p.next (spot-inside c s at h).next)))
  where
    go : (spot_of c s at).good ≡ true → (x : Records) → Found c s (spot_of c s at).next n x → Found c s at (suc n) (onto (fields_at s (spot_of c s at)) x)
    go g (taking.none) f = tt
    go g (records rs) f = (one g refl f.0, ap suc f.1)

-- the records of a taken sheet stand from its head's end on
pub taken-standing : (s : List ℕ) {c : Carrier} {rs : List Fields} → take_of s ≡ sheet c rs → Standing c s front_size rs × (length rs ≤ limit.records)
taken-standing s {c} {rs} e =
    let p : Passed s c rs = taken-passed s c rs e in
    let f : Found c s front_size (get_or s count_at 0) (records rs) = rw p.found at (found c s (get_or s count_at 0) 0 front_size p.front.long) in
    (f.0, omega (arith, f.1, p.few))

-- ---- what the answer of `take` says

pub took-refused : (s : List ℕ) {k : ℕ} → Refused k ≡ took_of (take_of s) → take_of s ≡ refuse k
took-refused s {k} = go (take_of s)
  where
    go : (t : Taken) → Refused k ≡ took_of t → t ≡ refuse k
    go (refuse j) e = cc
    go (sheet c rs) e = let z : ◌≡◌ {A = ℕ} 0 1 = cc in absurd (omega arith)

pub took-sheet : (s : List ℕ) {c : Carrier} {n : ℕ} → Sheet c n ≡ took_of (take_of s)
    → (rs : List Fields) × (take_of s ≡ sheet c rs) × (length rs ≡ n) × Standing c s front_size rs
took-sheet s {c} {n} = go (take_of s) refl
  where
    go : (t : Taken) → take_of s ≡ t → Sheet c n ≡ took_of t → (rs : List Fields) × (take_of s ≡ sheet c rs) × (length rs ≡ n) × Standing c s front_size rs
    go (refuse j) i e = let z : ◌≡◌ {A = ℕ} 0 1 = cc in absurd (omega arith)
    go (sheet d rs) i e =
        let same : take_of s ≡ sheet c rs = cc in
        (rs, same, cc, (taken-standing s same).0)
