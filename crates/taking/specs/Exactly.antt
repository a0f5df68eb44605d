-- What a head says, and that a sheet is taken exactly where it is one: `take_of` gives carrier c and records rs of s where s is their sheet, and nowhere else; a
-- sheet is one of one carrier and one list of records only; and which number refuses what is none. Assumes nothing.
use Rattle.std.specs.Prelude.{◌≡◌, ◌↔◌, Bool, List, [], ◌∷◌, ◌++◌, ℕ, zero, suc, ◌+◌, ◌*◌, ◌%◌, ◌≤◌, ◌<◌, length, get_or, take, drop, Option}
use Rattle.std.proofs.Math.Path.{refl, ap}
use Rattle.std.proofs.Common.{sym, ap₂, ◌∙◌, arith, take-append-drop}
use Rattle.std.proofs.Math.Bool.{true, false}
use borrow.Author.Tests.{lt-ltb, le-ltb, ltb-false, eqb-true}
use Rattle.std.proofs.Math.Dec.{ltb, eqb}
use Rattle.octets.specs.Numbers.{be, at16, Octet, Bytes}
use Rattle.octets.specs.Lists.{All, same}
use Rattle.octets.specs.ListsLaws.{all_drop}
use Rattle.numbers.specs.Refusal as refusal
use Rattle.numbers.specs.Limit as limit
use Rattle.carriers.specs.declared.Carrier.{Carrier}
use Rattle.carriers.specs.Carriers.{chosen_of, number_of}
use Rattle.carriers.proofs.CarriersLaws.{chosen-number, number-room, number-chosen, chosen-unknown}
use Rattle.blocks.specs.Block.{Fields}
use Rattle.records.specs.Records.{record_of}
use Rattle.sheets.specs.Sheets.{letters, edition, front_size, version_at, carrier_at, count_at, front_of, records_of, sheet_of}
use Rattle.taking.specs.Taking.{refuse, head, head_of, Records, none, records, onto, records_from, sheet, take_found, take_records, take_carrier, take_of}
use Rattle.taking.specs.Sheet.{FitsRecord, NoneFalls, IsHead, IsSheet}
use Rattle.octets.specs.SameLaws.{same_true, same_self}
use Rattle.taking.specs.TakenLaws.{Front, headed-front, front-headed, Passed, taken-passed, passed-taken}
use Rattle.taking.specs.RecordLaws.{one-read, one-says}

-- ---- the records

pub records-read : (c : Carrier) (least : ℕ) (rs : List Fields) → All (FitsRecord c) rs → NoneFalls least rs
    → records_from c (length rs) least (records_of c rs) ≡ records rs
unfolding records_from
records-read c least [] h k = refl
records-read c least (r ∷ rs) h k =
    one-read c least (λ r l. onto r (records_from c (length rs) r.priority l)) r (records_of c rs) h.0 k.0
    ∙ ap (onto r) (records-read c r.priority rs h.1 k.1)

-- l is the octets of n records that fit, the first priority not below `least`
abbrev Written : Carrier → ℕ → ℕ → List ℕ → Records → Type 0
Written c n least l none = Unit {0}
Written c n least l (records rs) = (l ≡ records_of c rs) × (length rs ≡ n) × All (FitsRecord c) rs × NoneFalls least rs

records-says : (c : Carrier) (n least : ℕ) (l : List ℕ) → Bytes l → Written c n least l (records_from c n least l)
unfolding records_from
records-says c zero least [] h = (refl, refl, tt, tt)
records-says c zero least (x ∷ xs) h = tt
records-says c (suc n) least l h =
    one-says c least (λ r l. onto r (records_from c n r.priority l)) (Written c (suc n) least) (λ _. tt)
    (λ r m f k hm. go r m f k (records_from c n r.priority m) (records-says c n r.priority m hm)) l h
  where
    go : (r : Fields) (m : List ℕ) → FitsRecord c r → least ≤ r.priority → (x : Records) → Written c n r.priority m x
        → Written c (suc n) least (record_of c r ++ m) (onto r x)
    go r m f k none w = tt
    go r m f k (records rs) w = (ap (λ (l : List ℕ). record_of c r ++ l) w.0, ap suc w.1, (f, w.2), (k, w.3))

-- ---- the head

-- the octets of a head before the rest, octet by octet
abbrev fronted : ℕ → ℕ → List ℕ → List ℕ
fronted k n l = letters ++ (be 2 edition ++ (k ∷ n ∷ l))

front-is : (s : List ℕ) → Front s → s ≡ fronted (get_or s carrier_at 0) (get_or s count_at 0) (drop front_size s)
front-is [] p = absurd (omega (arith, p.long))
front-is (x0 ∷ []) p = absurd (omega (arith, p.long))
front-is (x0 ∷ x1 ∷ []) p = absurd (omega (arith, p.long))
front-is (x0 ∷ x1 ∷ x2 ∷ []) p = absurd (omega (arith, p.long))
front-is (x0 ∷ x1 ∷ x2 ∷ x3 ∷ []) p = absurd (omega (arith, p.long))
front-is (x0 ∷ x1 ∷ x2 ∷ x3 ∷ x4 ∷ []) p = absurd (omega (arith, p.long))
front-is (x0 ∷ x1 ∷ x2 ∷ x3 ∷ x4 ∷ x5 ∷ []) p = absurd (omega (arith, p.long))
front-is (x0 ∷ x1 ∷ x2 ∷ x3 ∷ x4 ∷ k ∷ n ∷ l) p =
    let lettered : x0 ∷ x1 ∷ x2 ∷ [] ≡ letters = p.lettered in
    let version : x3 * 256 + x4 ≡ edition = p.version in
    let e3 : x3 ≡ 0 = omega arith in
    let e4 : x4 ≡ 1 = omega arith in
    cc

is_front : (k n : ℕ) (l : List ℕ) → length (fronted k n l) ≤ limit.input → Front (fronted k n l)
is_front k n l h = record { short = h; long = omega arith; lettered = refl; version = refl }

-- a head says a carrier octet and a record count exactly if the octets begin so
pub head-exactly : (s : List ℕ) (k n : ℕ) → (head_of s ≡ head k n) ↔ IsHead s k n
head-exactly s k n = (says, λ i. rw i.is (front-headed (fronted k n i.rest) (is_front k n i.rest (rw i.is at i.short))))
  where
    says : head_of s ≡ head k n → IsHead s k n
    says e =
        let f = headed-front s e in
        record { rest = drop front_size s; is = rw (f.1, f.2) at (front-is s f.0); short = f.0.short }

-- a carrier's head and what follows it
head-is : (c : Carrier) (n : ℕ) (l : List ℕ) → n < 256 → front_of c n ++ l ≡ fronted (number_of c) n l
unfolding front_of
head-is c n l h =
    let e : n % 256 ≡ n = omega arith in
    let o : number_of c % 256 ≡ number_of c = omega (arith, number-room c) in
    cc

-- ---- the theorems

pub taken-sheet : (s : List ℕ) (c : Carrier) (rs : List Fields) → Bytes s → take_of s ≡ sheet c rs → IsSheet s c rs
unfolding sheet_of
taken-sheet s c rs h e =
    let p : Passed s c rs = taken-passed s c rs e in
    let n : ℕ = get_or s count_at 0 in
    let w : Written c n 0 (drop front_size s) (records rs) = rw p.found at (records-says c n 0 (drop front_size s) (all_drop Octet front_size s h)) in
    let few : length rs ≤ limit.records = omega (arith, w.1, p.few) in
    let k : get_or s carrier_at 0 ≡ number_of c = number-chosen (get_or s carrier_at 0) c p.carrier in
    record {
      is =
          front-is s p.front
          ∙ ap₂ (λ (k n : ℕ). fronted k n (drop front_size s)) k (sym w.1)
          ∙ ap (fronted (number_of c) (length rs)) w.0
          ∙ sym (head-is c (length rs) (records_of c rs) (omega arith));
      few = few;
      each = w.2;
      order = w.3;
      short = p.front.short;
    }

pub sheet-taken : (s : List ℕ) (c : Carrier) (rs : List Fields) → IsSheet s c rs → take_of s ≡ sheet c rs
unfolding sheet_of
sheet-taken s c rs i =
    let few : length rs ≤ limit.records = i.few in
    let laid : s ≡ fronted (number_of c) (length rs) (records_of c rs) = i.is ∙ head-is c (length rs) (records_of c rs) (omega arith) in
    rw laid
    (passed-taken (fronted (number_of c) (length rs) (records_of c rs)) c rs (record {
      front = is_front (number_of c) (length rs) (records_of c rs) (rw laid at i.short);
      carrier = chosen-number c;
      few = few;
      found = records-read c 0 rs i.each i.order;
    }))

pub take-exactly : (s : List ℕ) (c : Carrier) (rs : List Fields) → Bytes s → (take_of s ≡ sheet c rs) ↔ IsSheet s c rs
take-exactly s c rs h = (taken-sheet s c rs h, sheet-taken s c rs)

pub sheet-once : (s : List ℕ) (c d : Carrier) (rs qs : List Fields) → IsSheet s c rs → IsSheet s d qs → (c ≡ d) × (rs ≡ qs)
sheet-once s c d rs qs i j =
    let e : take_of s ≡ sheet c rs = sheet-taken s c rs i in
    let f : take_of s ≡ sheet d qs = sheet-taken s d qs j in
    (cc, cc)

-- ---- the refusals: 2, 40, 41, 42, 4, 43

module _ (s : List ℕ) where
  -- the test of the letters
  pub letters-first : (same (take version_at s) letters ≡ true) ↔ ((rest : List ℕ) × (s ≡ letters ++ rest))
  letters-first = (
    λ e. (drop version_at s, sym (take-append-drop version_at s) ∙ ap (λ (l : List ℕ). l ++ drop version_at s) (same_true (take version_at s) letters e)),
    λ b. ap (λ (l : List ℕ). same (take version_at l) letters) b.1 ∙ same_self letters,
  )

  pub head-long : limit.input < length s → head_of s ≡ refuse refusal.input
  unfolding head_of
  head-long h = rw (lt-ltb limit.input (length s) h)

  module _ (short : length s ≤ limit.input) where
    -- s does not begin with the letters, or is shorter than a head
    pub head-unlettered : ((rest : List ℕ) → s ≡ letters ++ rest → front_size ≤ length s → ⊥) → head_of s ≡ refuse refusal.sheet
    unfolding head_of
    head-unlettered never = go (ltb (length s) front_size) refl (same (take version_at s) letters) refl
      where
        go : (few : Bool) → ltb (length s) front_size ≡ few → (lettered : Bool) → same (take version_at s) letters ≡ lettered → head_of s ≡ refuse refusal.sheet
        go true f lettered l = rw (le-ltb limit.input (length s) short, f)
        go false f false l = rw (le-ltb limit.input (length s) short, f, l)
        go false f true l = let b = letters-first.0 l in absurd (never b.0 b.1 (ltb-false _ _ f))

    -- it does, and is no head
    pub head-other : {rest : List ℕ} → s ≡ letters ++ rest → front_size ≤ length s → ((k n : ℕ) → IsHead s k n → ⊥) → head_of s ≡ refuse refusal.version
    unfolding head_of
    head-other {rest} begins long never = go (eqb (at16 s version_at) edition) refl
      where
        go : (version : Bool) → eqb (at16 s version_at) edition ≡ version → head_of s ≡ refuse refusal.version
        go false e = rw (le-ltb limit.input (length s) short, le-ltb (length s) front_size long, letters-first.1 (rest, begins), e)
        go true e =
            let f : Front s = record { short = short; long = long; lettered = ap (take version_at) begins; version = eqb-true (at16 s version_at) edition e } in
            absurd (never (get_or s carrier_at 0) (get_or s count_at 0) ((head-exactly s (get_or s carrier_at 0) (get_or s count_at 0)).0 (front-headed s f)))

  pub take-refused : {k : ℕ} → head_of s ≡ refuse k → take_of s ≡ refuse k
  unfolding take_of
  take-refused e = rw e

  head-taken : {k n : ℕ} → IsHead s k n → take_of s ≡ take_carrier (chosen_of k) n (drop front_size s)
  unfolding take_of
  head-taken {k} {n} i = rw ((head-exactly s k n).1 i)

  pub take-carrier : {k n : ℕ} → IsHead s k n → ((c : Carrier) → number_of c ≡ k → ⊥) → take_of s ≡ refuse refusal.sheet_carrier
  take-carrier {k} {n} i never = head-taken i ∙ ap (λ (o : Option Carrier). take_carrier o n (drop front_size s)) (chosen-unknown k never)

  module _ (c : Carrier) {n : ℕ} (i : IsHead s (number_of c) n) where
    carrier-taken : take_of s ≡ take_records c n (drop front_size s)
    carrier-taken = head-taken i ∙ ap (λ (o : Option Carrier). take_carrier o n (drop front_size s)) (chosen-number c)

    pub take-many : limit.records < n → take_of s ≡ refuse refusal.records
    take-many h = carrier-taken ∙ rw (lt-ltb limit.records n h)

    pub take-untiled : Bytes s → n ≤ limit.records → ((rs : List Fields) → IsSheet s c rs → ⊥) → take_of s ≡ refuse refusal.tiling
    take-untiled octets few never = found ∙ go (records_from c n 0 (drop front_size s)) found
      where
        found : take_of s ≡ take_found c (records_from c n 0 (drop front_size s))
        found = carrier-taken ∙ rw (le-ltb limit.records n few)

        go : (x : Records) → take_of s ≡ take_found c x → take_found c x ≡ refuse refusal.tiling
        go none e = refl
        go (records rs) e = absurd (never rs (taken-sheet s c rs octets e))
