-- What writing answers is what `Answers` says and nothing else (RULES D2). Assumes nothing.
use Rattle.std.specs.Prelude.{◌≡◌, ◌⊎◌, ◌↔◌, Bool, List, [], ◌∷◌, ℕ, ◌+◌, ◌≤◌, ◌<◌, ltb, eqb, length, take, Option, Some, None}
use Rattle.std.proofs.Math.Path.{refl, subst⁻¹}
use Rattle.std.proofs.Common.{sym, ap, ap₂, subst, ◌∙◌, inl, inr, true≢false, arith}
use Rattle.std.proofs.Math.Bool.{true, false}
use borrow.Author.Tests.{lt-ltb, le-ltb, ltb-true, ltb-false, eqb-true, eqb-false, ne_eqb}
use Rattle.octets.specs.Numbers.{Bytes}
use Rattle.octets.specs.Lists.{All, same}
use Rattle.numbers.specs.Refusal as refusal
use Rattle.numbers.specs.Limit as limit
use Rattle.carriers.specs.declared.Carrier.{Carrier}
use Rattle.carriers.specs.Carriers.{chosen_of, number_of}
use Rattle.carriers.proofs.CarriersLaws.{chosen-number, number-chosen}
use Rattle.blocks.specs.Block.{Fields}
use Rattle.judge.specs.declared.Side.TheVariants.{Writing}
use Rattle.judge.specs.Place.{judged, from}
use Rattle.judge.specs.Judge.{judged_by, fault_of}
use Rattle.judge.specs.Allowed.{NameAllowed, Allowed, PlaceOf}
use Rattle.judge.proofs.AllowedLaws.{broken-exactly, faultless-allowed}
use Rattle.judge.proofs.AllowedLaws as judge
use Rattle.judge.proofs.PlaceLaws.{placed-exactly}
use Rattle.records.specs.Records.{head_size, record_of}
use Rattle.sheets.specs.Sheets.{letters, front_size, version_at}
use Rattle.taking.specs.Sheet.{IsHead, IsSheet}
use Rattle.taking.specs.Taking.{Headed, head_of, Taken, take_of}
use Rattle.taking.specs.Taking as taking
use Rattle.taking.specs.Exactly.{head-exactly, letters-first, head-long, head-unlettered, head-other, take-refused, take-carrier, take-many, take-untiled, taken-sheet, sheet-taken}
use Rattle.vetting.specs.Vetting.{first_fault, any_large, vet_of}
use Rattle.vetting.specs.Vetting as vetting
use Rattle.vetting.proofs.WeighingLaws.{first-passed, first_faulty}
use Rattle.vetting.proofs.VettingLaws.{OfOctets, sheet-octets, vet-exactly}
use Rattle.answers.specs.Answers.{Answer, refuse}
use Rattle.written.specs.Octets.{octets_of}
use Rattle.written.specs.Writing.{write_of}
use Rattle.written.specs.Accepted.{Sized, Accepted}
use Rattle.written.proofs.AcceptedLaws.{sized-exactly, sheet-accepted, accepted-writes}
use Rattle.written.specs.Answers.{Lettered, FirstFault, here, later, Answers, too_long, no_letters, other_version, no_carrier, too_many, untiled, faulty, large, no_room, is-written}

-- ---- the letters

-- s begins with them and is long enough for a head, or not
lettered-or : (s : List ℕ) → Lettered s ⊎ (Lettered s → ⊥)
lettered-or s = go (ltb (length s) front_size) refl (same (take version_at s) letters) refl
  where
    go : (few : Bool) → ltb (length s) front_size ≡ few → (lettered : Bool) → same (take version_at s) letters ≡ lettered → Lettered s ⊎ (Lettered s → ⊥)
    go true f lettered l = let h : length s < front_size = ltb-true _ _ f in inr (λ i. omega (arith, i.enough))
    go false f true l = let b = (letters-first s).0 l in inl (record { rest = b.0; is = b.1; enough = ltb-false _ _ f })
    go false f false l = inr (λ i. true≢false (sym ((letters-first s).1 (i.rest, i.is)) ∙ l))

-- ---- 21 to 28

module _ (c : Carrier) where
  fault-some : {at : ℕ} {rs : List Fields} {k p : ℕ} → FirstFault c at rs k p → k ≡ 0 → ⊥
  fault-some (here b n x) = n
  fault-some (later a f) = fault-some f

  fault-found : {at : ℕ} {rs : List Fields} {k p : ℕ} → All OfOctets rs → FirstFault c at rs k p → first_fault c at rs ≡ judged k p
  fault-found o (here {at} {r} {rs} {k} {p} b n x) =
      let e : fault_of Writing c r ≡ k = (broken-exactly Writing c r k o.0).1 b in
      let place : (from (at + head_size) (judged_by Writing c r)).place ≡ p =
      (placed-exactly Writing c r (at + head_size) p).1 (subst⁻¹ (λ (k : ℕ). PlaceOf (NameAllowed Writing c) r.name (at + head_size) k p) e x) in
      first_faulty c at r rs (λ z. n (sym e ∙ z)) ∙ ap₂ judged e place
  fault-found o (later {at} {r} {rs} a f) = first-passed c at r rs (judge.allowed-faultless Writing c r a) ∙ fault-found o.1 f

  -- there is one with its place, or every record is allowed
  abbrev FaultOr : ℕ → List Fields → Type 0
  FaultOr at rs = ((k : ℕ) × (p : ℕ) × FirstFault c at rs k p) ⊎ All (Allowed Writing c) rs

  fault-or : (at : ℕ) (rs : List Fields) → All OfOctets rs → FaultOr at rs
  fault-or at [] o = inr tt
  fault-or at (r ∷ rs) o = go (eqb (fault_of Writing c r) 0) refl (fault-or (at + length (record_of c r)) rs o.1)
    where
      allowed : eqb (fault_of Writing c r) 0 ≡ true → Allowed Writing c r
      allowed e = faultless-allowed Writing c r o.0 (eqb-true _ _ e)

      go : (none : Bool) → eqb (fault_of Writing c r) 0 ≡ none → FaultOr (at + length (record_of c r)) rs → FaultOr at (r ∷ rs)
      go false e ih =
          let j = from (at + head_size) (judged_by Writing c r) in
          let broken = (broken-exactly Writing c r j.fault o.0).0 refl in
          inl (j.fault, j.place, here broken (eqb-false _ _ e) ((placed-exactly Writing c r (at + head_size) j.place).0 refl))
      go true e (inl f) = inl (f.0, f.1, later (allowed e) f.2)
      go true e (inr h) = inr (allowed e, h)

-- ---- the answer

module _ (s : List ℕ) (room : ℕ) where
  refused-writes : {k : ℕ} → take_of s ≡ taking.refuse k → write_of s room ≡ refuse k 0
  unfolding write_of vet_of
  refused-writes e = rw e

  faulty-writes : {c : Carrier} {rs : List Fields} {k p : ℕ} → take_of s ≡ taking.sheet c rs → first_fault c front_size rs ≡ judged k p → (k ≡ 0 → ⊥)
      → write_of s room ≡ refuse k p
  unfolding write_of vet_of
  faulty-writes {c} {rs} {k} e f n = rw (e, f, ne_eqb k 0 n)

  large-writes : {c : Carrier} {rs : List Fields} → vet_of s ≡ vetting.sheet c rs → (All (Sized c) rs → ⊥) → write_of s room ≡ refuse refusal.large 0
  unfolding write_of
  large-writes {c} {rs} e n = go (any_large c rs) refl
    where
      go : (big : Bool) → any_large c rs ≡ big → write_of s room ≡ refuse refusal.large 0
      go true l = rw (e, l)
      go false l = absurd (n ((sized-exactly c rs).0 l))

  module _ (octets : Bytes s) where
    answers-write : {a : Answer} → Answers s room a → write_of s room ≡ a
    answers-write (too_long h) = refused-writes (take-refused s (head-long s h))
    answers-write (no_letters short never) =
        refused-writes (take-refused s (head-unlettered s short (λ rest i e. never (record { rest = rest; is = i; enough = e }))))
    answers-write (other_version short l never) = refused-writes (take-refused s (head-other s short l.is l.enough never))
    answers-write (no_carrier i never) = refused-writes (take-carrier s i never)
    answers-write (too_many c i h) = refused-writes (take-many s c i h)
    answers-write (untiled c i few never) = refused-writes (take-untiled s c i octets few never)
    answers-write (faulty {c} {rs} {k} i f) =
        faulty-writes (sheet-taken s c rs i) (fault-found c (sheet-octets s c rs octets i) f) (fault-some c f)
    answers-write (large {c} {rs} i p never) = large-writes ((vet-exactly s c rs octets).1 (i, p)) never
    answers-write (no_room {c} {rs} a h) = accepted-writes s c rs room a ∙ rw (lt-ltb room (length (octets_of c rs)) h)
    answers-write (is-written {c} {rs} a h) = accepted-writes s c rs room a ∙ rw (le-ltb room (length (octets_of c rs)) h)

    -- ---- the tests in their order, the last first

    abbrev Answered : Type 0
    Answered = Answers s room (write_of s room)

    so : {a : Answer} → Answers s room a → Answered
    so x = subst⁻¹ (Answers s room) (answers-write x) x

    -- 5
    accepted-so : {c : Carrier} {rs : List Fields} → Accepted s c rs → Answered
    accepted-so {c} {rs} a = go (ltb room (length (octets_of c rs))) refl
      where
        go : (long : Bool) → ltb room (length (octets_of c rs)) ≡ long → Answered
        go true l = so (no_room a (ltb-true _ _ l))
        go false l = so (is-written a (ltb-false _ _ l))

    -- 44
    allowed-so : {c : Carrier} {rs : List Fields} → IsSheet s c rs → All (Allowed Writing c) rs → Answered
    allowed-so {c} {rs} i p = go (any_large c rs) refl
      where
        go : (big : Bool) → any_large c rs ≡ big → Answered
        go true l = so (large i p (λ h. true≢false (sym l ∙ (sized-exactly c rs).1 h)))
        go false l = accepted-so (sheet-accepted s c rs i p ((sized-exactly c rs).0 l))

    -- 21 to 28
    sheet-so : {c : Carrier} {rs : List Fields} → IsSheet s c rs → Answered
    sheet-so {c} {rs} i = go (fault-or c front_size rs (sheet-octets s c rs octets i))
      where
        go : FaultOr c front_size rs → Answered
        go (inl f) = so (faulty i f.2)
        go (inr p) = allowed-so i p

    -- 4, 43
    counted-so : (c : Carrier) {n : ℕ} → IsHead s (number_of c) n → Answered
    counted-so c {n} i = go (ltb limit.records n) refl (take_of s) refl
      where
        go : (many : Bool) → ltb limit.records n ≡ many → (t : Taken) → take_of s ≡ t → Answered
        go true m t e = so (too_many c i (ltb-true _ _ m))
        go false m (taking.sheet d rs) e = sheet-so (taken-sheet s d rs octets e)
        go false m (taking.refuse k) e =
            so (untiled c i (ltb-false _ _ m) (λ rs x. let q = sheet-taken s c rs x in let z : ◌≡◌ {A = ℕ} 0 1 = cc in omega arith))

    -- 42
    headed-so : {k n : ℕ} → IsHead s k n → Answered
    headed-so {k} {n} i = go (chosen_of k) refl
      where
        go : (o : Option Carrier) → chosen_of k ≡ o → Answered
        go None e =
            so (no_carrier i (λ c j. let q : Some c ≡ None = sym (chosen-number c) ∙ ap chosen_of j ∙ e in let z : ◌≡◌ {A = ℕ} 0 1 = cc in omega arith))
        go (Some c) e = counted-so c (subst (λ (k : ℕ). IsHead s k n) (number-chosen k c e) i)

    -- 40, 41
    short-so : length s ≤ limit.input → Answered
    short-so short = go (lettered-or s) (head_of s) refl
      where
        go : Lettered s ⊎ (Lettered s → ⊥) → (h : Headed) → head_of s ≡ h → Answered
        go (inr never) h e = so (no_letters short never)
        go (inl l) (taking.head k n) e = headed-so ((head-exactly s k n).0 e)
        go (inl l) (taking.refuse j) e =
            so (other_version short l (λ k n i. let q = (head-exactly s k n).1 i in let z : ◌≡◌ {A = ℕ} 0 1 = cc in omega arith))

    -- 2
    is-answer : Answered
    is-answer = go (ltb limit.input (length s)) refl
      where
        go : (long : Bool) → ltb limit.input (length s) ≡ long → Answered
        go true l = so (too_long (ltb-true _ _ l))
        go false l = short-so (ltb-false _ _ l)

-- writing answers a exactly where `Answers` says so
pub write-exactly : (s : List ℕ) (room : ℕ) (a : Answer) → Bytes s → (write_of s room ≡ a) ↔ Answers s room a
write-exactly s room a octets = (λ e. subst (Answers s room) e (is-answer s room octets), answers-write s room octets)

-- it answers one thing
pub write-once : (s : List ℕ) (room : ℕ) (a b : Answer) → Bytes s → Answers s room a → Answers s room b → a ≡ b
write-once s room a b octets x y = sym (answers-write s room octets x) ∙ answers-write s room octets y
