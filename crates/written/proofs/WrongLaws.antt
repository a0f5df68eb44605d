-- Writing refuses a sheet by 22 exactly if a name in it is wrong after records that are allowed, and gives the place in the sheet; no other refusal
-- has one (RULES T8). Assumes nothing.
use Rattle.std.specs.Prelude.{◌≡◌, ◌↔◌, Bool, true, false, cond, ltb}
use Rattle.std.proofs.Math.Path.{refl, sym, ap, subst⁻¹}
use Rattle.std.proofs.Common.{◌∙◌, subst, inl, inr, arith}
use mathlib.Core.List.{List, [], ◌∷◌, ◌++◌, append_assoc}
use Prim.Native.Nat.{ℕ, ◌+◌, ◌-◌, ◌≤◌}
use Rattle.std.proofs.Math.ListN.{length, length-append}
use Rattle.octets.specs.Numbers.{Bytes}
use Rattle.octets.specs.Lists.{All, Stands}
use Rattle.octets.specs.ListsLaws.{flat_map_append, stands-begins, stands_at, stands-within}
use Rattle.numbers.specs.Fault as fault
use Rattle.numbers.specs.Refusal as refusal
use Rattle.carriers.specs.declared.Carrier.{Carrier}
use Rattle.carriers.specs.Carriers.{address_width}
use Rattle.names.specs.Names.{IsName, FirstBad}
use Rattle.blocks.specs.Block.{Fields}
use Rattle.judge.specs.declared.Side.TheVariants.{Writing}
use Rattle.judge.specs.Allowed.{Allowed, PlaceOf, in_name, nowhere}
use Rattle.judge.proofs.PlaceLaws.{named-service}
use Rattle.records.specs.Records.{head_size, tail_of, record_of}
use Rattle.records.specs.RecordsLaws.{length-record}
use Rattle.sheets.specs.Sheets.{front_size, front_of, records_of, sheet_of}
use Rattle.sheets.specs.SheetsLaws.{length_front}
use Rattle.taking.specs.Sheet.{IsSheet}
use Rattle.vetting.specs.Vetting.{Vetted, any_large, vet_of}
use Rattle.vetting.specs.Vetting as vetting
use Rattle.vetting.proofs.VettingLaws.{vetted-nowhere}
use Rattle.answers.specs.Answers.{Answer, refuse, written}
use Rattle.written.specs.Octets.{octets_of}
use Rattle.written.specs.Writing.{write_vetted, write_of}
use Rattle.written.specs.Answers.{FirstFault, here, later, Answers, too_long, no_letters, other_version, no_carrier, too_many, untiled, faulty, large, no_room, is-written}
use Rattle.written.proofs.AnswersLaws.{write-exactly}
use Rattle.written.specs.Wrong.{WrongName}

-- ---- among records

-- the first of the records rs that is not allowed has a wrong name; the records stand from index `at` on, and p is the place of its first bad octet
record WrongAmong (c : Carrier) (at : ℕ) (rs : List Fields) (p : ℕ) : Type 0 where
  before : List Fields
  wrong : Fields
  after : List Fields
  are : rs ≡ before ++ (wrong ∷ after)
  allowed : All (Allowed Writing c) before
  service : wrong.priority ≡ 0 → ⊥
  bad_at : ℕ
  bad : FirstBad IsName wrong.name bad_at
  place : p ≡ at + length (records_of c before) + head_size + bad_at

module _ (c : Carrier) where
  -- 22 is the first fault exactly of such records
  first-wrong : {at : ℕ} {rs : List Fields} {k p : ℕ} → FirstFault c at rs k p → k ≡ fault.name → WrongAmong c at rs p
  first-wrong (here {at} {r} {rs} b n x) e = go x e (named-service Writing c r b e)
    where
      go : {k p : ℕ} → PlaceOf IsName r.name (at + head_size) k p → k ≡ fault.name → (r.priority ≡ 0 → ⊥) → WrongAmong c at (r ∷ rs) p
      go (nowhere m) e s = absurd (m e)
      go (in_name {i} bad) e s = record {
        before = [];
        wrong = r;
        after = rs;
        are = refl;
        allowed = tt;
        service = s;
        bad_at = i;
        bad = bad;
        place = omega arith;
      }
  first-wrong (later {at} {r} {rs} a f) e =
      let w = first-wrong f e in
      record {
        before = r ∷ w.before;
        wrong = w.wrong;
        after = w.after;
        are = ap (λ (l : List Fields). r ∷ l) w.are;
        allowed = (a, w.allowed);
        service = w.service;
        bad_at = w.bad_at;
        bad = w.bad;
        place = omega (arith, w.place, length-append (record_of c r) (records_of c w.before));
      }

  wrong_first : (at : ℕ) (before : List Fields) (r : Fields) (after : List Fields) (i : ℕ) → All (Allowed Writing c) before → (r.priority ≡ 0 → ⊥)
      → FirstBad IsName r.name i → FirstFault c at (before ++ (r ∷ after)) fault.name (at + length (records_of c before) + head_size + i)
  wrong_first at [] r after i h s bad =
      let e : at + head_size + i ≡ at + 0 + head_size + i = omega arith in
      here (inr (s, inl (bad.not_acceptable, refl))) (λ z. omega arith)
      (subst (PlaceOf IsName r.name (at + head_size) fault.name) e (in_name bad))
  wrong_first at (q ∷ before) r after i h s bad =
      let next : ℕ = at + length (record_of c q) in
      let e : next + length (records_of c before) + head_size + i ≡ at + length (records_of c (q ∷ before)) + head_size + i =
      omega (arith, length-append (record_of c q) (records_of c before)) in
      subst (FirstFault c at (q ∷ (before ++ (r ∷ after))) fault.name) e (later h.0 (wrong_first next before r after i h.1 s bad))

  -- ---- in the sheet

  -- a record's name stands after its head
  record-name : (r : Fields) → Stands r.name head_size (record_of c r)
  unfolding record_of
  record-name r = stands-begins r.name (tail_of (address_width c) r.full r.addresses r.parameters) (record_of c r) head_size refl

  sheet-name : (before : List Fields) (r : Fields) (after : List Fields)
      → Stands r.name (front_size + length (records_of c before) + head_size) (sheet_of c (before ++ (r ∷ after)))
  unfolding sheet_of
  sheet-name before r after =
      let head : List ℕ = front_of c (length (before ++ (r ∷ after))) in
      let front : List ℕ = head ++ records_of c before in
      let more : List ℕ = record_of c r ++ records_of c after in
      let parts : head ++ records_of c (before ++ (r ∷ after)) ≡ front ++ more =
      ap (λ (l : List ℕ). head ++ l) (flat_map_append (record_of c) before (r ∷ after)) ∙ sym (append_assoc head (records_of c before) more) in
      let size : length front + head_size ≡ front_size + length (records_of c before) + head_size =
      omega (arith, length-append head (records_of c before), length_front c (length (before ++ (r ∷ after)))) in
      let room : head_size + length r.name ≤ length (record_of c r) = omega (arith, length-record c r) in
      subst⁻¹ (Stands r.name (front_size + length (records_of c before) + head_size)) parts
      (stands_at r.name (front ++ more) size (stands-within front r.name (record_of c r) (records_of c after) head_size room (record-name r)))

module _ (s : List ℕ) (p : ℕ) where
  in-sheet : {c : Carrier} {rs : List Fields} → IsSheet s c rs → WrongAmong c front_size rs p → WrongName s p
  in-sheet {c} {rs} i w =
      let start : ℕ = front_size + length (records_of c w.before) + head_size in
      let is : IsSheet s c (w.before ++ (w.wrong ∷ w.after)) = subst (IsSheet s c) w.are i in
      let e : w.bad_at ≡ p - start = omega (arith, w.place) in
      record {
        carrier = c;
        before = w.before;
        wrong = w.wrong;
        after = w.after;
        is = is;
        allowed = w.allowed;
        service = w.service;
        start = start;
        starts = refl;
        stands = subst⁻¹ (Stands w.wrong.name start) is.is (sheet-name c w.before w.wrong w.after);
        from = omega (arith, w.place);
        bad = subst (FirstBad IsName w.wrong.name) e w.bad;
      }

  -- ---- the answer

  module _ (room : ℕ) where
    wrong-answers : WrongName s p → Answers s room (refuse fault.name p)
    wrong-answers w =
        let at : ℕ = front_size + length (records_of w.carrier w.before) + head_size in
        let e : at + (p - w.start) ≡ p = omega (arith, w.starts, w.from) in
        let f = wrong_first w.carrier front_size w.before w.wrong w.after (p - w.start) w.allowed w.service w.bad in
        faulty w.is (subst (FirstFault w.carrier front_size (w.before ++ (w.wrong ∷ w.after)) fault.name) e f)

    answers-wrong : {a : Answer} → Answers s room a → a ≡ refuse fault.name p → WrongName s p
    answers-wrong (too_long h) e = let z : refusal.input ≡ fault.name = cc in absurd (omega arith)
    answers-wrong (no_letters h l) e = let z : refusal.sheet ≡ fault.name = cc in absurd (omega arith)
    answers-wrong (other_version h l n) e = let z : refusal.version ≡ fault.name = cc in absurd (omega arith)
    answers-wrong (no_carrier i n) e = let z : refusal.sheet_carrier ≡ fault.name = cc in absurd (omega arith)
    answers-wrong (too_many c i h) e = let z : refusal.records ≡ fault.name = cc in absurd (omega arith)
    answers-wrong (untiled c i h n) e = let z : refusal.tiling ≡ fault.name = cc in absurd (omega arith)
    answers-wrong (faulty {c} {rs} {k} {p = q} i f) e =
        let j : k ≡ fault.name = cc in
        let o : q ≡ p = cc in
        in-sheet i (subst (WrongAmong c front_size rs) o (first-wrong c f j))
    answers-wrong (large i a n) e = let z : refusal.large ≡ fault.name = cc in absurd (omega arith)
    answers-wrong (no_room a h) e = let z : refusal.room ≡ fault.name = cc in absurd (omega arith)
    answers-wrong (is-written a h) e = let z : ◌≡◌ {A = ℕ} 0 1 = cc in absurd (omega arith)

-- writing refuses by 22 and gives the place p exactly where a name is wrong at p
pub wrong-exactly : (s : List ℕ) (room p : ℕ) → Bytes s → (write_of s room ≡ refuse fault.name p) ↔ WrongName s p
wrong-exactly s room p octets =
    let x = write-exactly s room (refuse fault.name p) octets in
    (λ e. answers-wrong s p room (x.0 e) refl, λ w. x.1 (wrong-answers s p room w))

-- every other refusal has the place 0
pub no_place : (s : List ℕ) (room k p : ℕ) → write_of s room ≡ refuse k p → (k ≡ fault.name → ⊥) → p ≡ 0
unfolding write_of
no_place s room k p = go (vet_of s) refl
  where
    records : (octets : List ℕ) (big short : Bool) → cond big (refuse refusal.large 0) (cond short (refuse refusal.room 0) (written octets)) ≡ refuse k p
        → p ≡ 0
    records octets true short e = cc
    records octets false true e = cc
    records octets false false e = let z : ◌≡◌ {A = ℕ} 0 1 = cc in absurd (omega arith)

    go : (v : Vetted) → vet_of s ≡ v → write_vetted v room ≡ refuse k p → (k ≡ fault.name → ⊥) → p ≡ 0
    go (vetting.refuse j q) i e n = vetted-nowhere s k p (i ∙ cc) n
    go (vetting.sheet c rs) i e n = records (octets_of c rs) (any_large c rs) (ltb room (length (octets_of c rs))) e
