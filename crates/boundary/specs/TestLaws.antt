-- An entry that passes the test is as it says: one law for each test, and `good-holds` for all of them. Assumes nothing.
use Rattle.std.specs.Prelude.{◌≡◌, refl, Bool, true, false, cond, not, ◌&&◌, List, [], ◌∷◌, ℕ, ltb, length, take, drop, Some}
use Rattle.std.proofs.Common.{sym, ap, ◌∙◌, true≢false, arith, eqb-true, lt-ltb, le-ltb}
use Rattle.std.proofs.lemmas.Bool.{false≢true, not-true}
use Rattle.std.proofs.Math.Bool.{and-eq-true_iff}
use Rattle.octets.specs.Lists.{All, same}
use Rattle.octets.specs.Over.{over}
use Rattle.numbers.specs.Refusal as refusal
use Rattle.carriers.specs.declared.Carrier.{Carrier}
use Rattle.carriers.specs.Carriers.{chosen_of, number_of}
use Rattle.carriers.proofs.CarriersLaws.{chosen-number}
use Rattle.blocks.specs.Block.{Fields, head_with, fields_of}
use Rattle.reading.specs.Reading.{read_of}
use Rattle.reading.specs.Result.{Done, done}
use Rattle.reading.specs.Result as reading
use Rattle.taking.specs.Taking.{Taken}
use Rattle.taking.specs.Taking as taking
use Rattle.octets.specs.SameLaws.{same_true, same_self}
use Rattle.written.specs.Writing.{write_of}
use Rattle.answers.specs.Answers.{written}
use Rattle.answers.specs.Answers as writing
use Rattle.reading.specs.Reading as answered
use Rattle.reading.specs.RoomLaws as read_room
use Rattle.written.specs.Writing as wrote
use Rattle.written.proofs.RoomLaws as write_room
use Rattle.boundary.specs.Piece.{Back, again, others, Claim, octets, sheet_octets, part_octets, number, ends, joined, options, replaced, short, enough, Piece, Means, IsRead, IsWritten, IsOther, Returns, Holds}
use Rattle.boundary.specs.Test.{every, same_bit, same_record, same_records, same_taken, is_done, is_refused, is_written, passes, reads, writes, returns, takes, good}

both : (a b : Bool) → a && b ≡ true → (a ≡ true) × (b ≡ true)
both a b e = (and-eq-true_iff a b).0 e

pub every-all : {A : Type 0} (f : A → Bool) (P : A → Type 0) → ((x : A) → f x ≡ true → P x) → (l : List A) → every f l ≡ true → All P l
every-all f P h [] e = tt
every-all f P h (x ∷ xs) e = let b = both (f x) (every f xs) e in (h x b.0, every-all f P h xs b.1)

-- ---- what is the same

bit-true : (a b : Bool) → same_bit a b ≡ true → a ≡ b
bit-true true true e = refl
bit-true true false e = absurd (false≢true e)
bit-true false true e = absurd (false≢true e)
bit-true false false e = refl

record-true : (a b : Fields) → same_record a b ≡ true → a ≡ b
record-true a b e =
    let f = both _ _ e in
    let g = both _ _ f.1 in
    let h = both _ _ g.1 in
    let i = both _ _ h.1 in
    let j = both _ _ i.1 in
    let p : a.priority ≡ b.priority = eqb-true _ _ f.0 in
    let t : a.lifetime ≡ b.lifetime = eqb-true _ _ g.0 in
    let u : a.full ≡ b.full = bit-true _ _ h.0 in
    let n : a.name ≡ b.name = same_true _ _ i.0 in
    let s : a.addresses ≡ b.addresses = same_true _ _ j.0 in
    let q : a.parameters ≡ b.parameters = same_true _ _ j.1 in
    let r : fields_of (head_with a.priority a.lifetime a.full) a.name a.addresses a.parameters
    ≡ fields_of (head_with b.priority b.lifetime b.full) b.name b.addresses b.parameters = rw (p, t, u, n, s, q) refl in
    r

records-true : (a b : List Fields) → same_records a b ≡ true → a ≡ b
records-true [] [] e = refl
records-true [] (y ∷ ys) e = absurd (false≢true e)
records-true (x ∷ xs) [] e = absurd (false≢true e)
records-true (x ∷ xs) (y ∷ ys) e =
    let f = both (same_record x y) (same_records xs ys) e in
    let p : x ≡ y = record-true x y f.0 in
    let q : xs ≡ ys = records-true xs ys f.1 in
    cc

number_same : (c d : Carrier) → number_of c ≡ number_of d → c ≡ d
number_same c d e = let k : Some c ≡ Some d = sym (chosen-number c) ∙ ap chosen_of e ∙ chosen-number d in cc

taken_true : (a b : Taken) → same_taken a b ≡ true → a ≡ b
taken_true (taking.refuse k) (taking.refuse j) e = ap taking.refuse (eqb-true k j e)
taken_true (taking.refuse k) (taking.sheet d qs) e = absurd (false≢true e)
taken_true (taking.sheet c rs) (taking.refuse j) e = absurd (false≢true e)
taken_true (taking.sheet c rs) (taking.sheet d qs) e =
    let f = both _ _ e in
    let p : c ≡ d = number_same c d (eqb-true _ _ f.0) in
    let q : rs ≡ qs = records-true rs qs f.1 in
    cc

done-true : (d : Done) (a : reading.Answer) → is_done d a ≡ true → a ≡ done d
done-true d (reading.refuse k) e = absurd (false≢true e)
done-true d (done x) e =
    let f = both _ _ e in
    let g = both _ _ f.1 in
    let h = both _ _ g.1 in
    let s : x.sheet ≡ d.sheet = same_true _ _ f.0 in
    let n : x.found ≡ d.found = eqb-true _ _ g.0 in
    let m : x.discarded ≡ d.discarded = eqb-true _ _ h.0 in
    let i = both _ _ h.1 in
    let k : x.fault ≡ d.fault = eqb-true _ _ i.0 in
    let p : x.place ≡ d.place = eqb-true _ _ i.1 in
    let all : ◌≡◌ {A = Done}
    (record { sheet = x.sheet; found = x.found; discarded = x.discarded; fault = x.fault; place = x.place })
    (record { sheet = d.sheet; found = d.found; discarded = d.discarded; fault = d.fault; place = d.place }) = rw (s, n, m, k, p) refl in
    ap done all

refused-true : (k : ℕ) (a : reading.Answer) → is_refused k a ≡ true → a ≡ reading.refuse k
refused-true k (reading.refuse j) e = ap reading.refuse (eqb-true j k e)
refused-true k (done x) e = absurd (false≢true e)

written-true : (bs : List ℕ) (a : writing.Answer) → is_written bs a ≡ true → a ≡ written bs
written-true bs (writing.refuse k p) e = absurd (false≢true e)
written-true bs (written cs) e = ap written (same_true cs bs e)

-- ---- an entry

module _ (p : Piece) where
  means : (c : Claim) → passes p c ≡ true → Means p c
  means (octets n) e = eqb-true _ _ e
  means (sheet_octets n) e = eqb-true _ _ e
  means (part_octets l n) e = eqb-true _ _ e
  means (number w i n) e = eqb-true _ _ e
  means (ends l) e = same_true _ _ e
  means (joined n) e = eqb-true _ _ e
  means (options ns) e = same_true _ _ e
  means (replaced l i old new) e =
      let f = both (same (take (length old) (drop i l)) old) (same p.area (over i new l)) e in
      (same_true _ _ f.0, same_true _ _ f.1)
  means (short room) e = refused-true refusal.room _ e
  means (enough room) e = done-true p.gives _ e

  -- the test is in one room, the statement for every room: the room decides no more than whether it is 5
  is_read : reads p ≡ true → IsRead p
  is_read e =
      let n = length p.gives.sheet in
      let any : (room : ℕ) → read_of p.carrier p.area room ≡ answered.in_room p.gives room =
      λ room. read_room.room-decides p.carrier p.area n room (done-true p.gives _ e) in
      record {
        enough = λ room h. any room ∙ rw (le-ltb room n h);
        short = λ room h. any room ∙ rw (lt-ltb room n h);
      }

  module _ (bs : List ℕ) (e : writes p bs ≡ true) where
    any-room : (room : ℕ) → write_of p.gives.sheet room ≡ wrote.in_room bs room
    any-room room = write_room.room-decides p.gives.sheet (length bs) room (written-true bs _ e)

    is-written : IsWritten p bs
    is-written = record {
      enough = λ room h. any-room room ∙ rw (le-ltb room (length bs) h);
      short = λ room h. any-room room ∙ rw (lt-ltb room (length bs) h);
    }

    is-other : same bs p.area ≡ false → IsOther p
    is-other n room h = go (ltb room (length bs)) (sym (any-room room) ∙ h)
      where
        go : (b : Bool) → cond b (writing.refuse refusal.room 0) (written bs) ≡ written p.area → ⊥
        go true q = let z : ◌≡◌ {A = ℕ} 0 1 = cc in omega arith
        go false q =
            let i : bs ≡ p.area = cc in
            true≢false (sym (same_self p.area) ∙ ap (λ (l : List ℕ). same l p.area) (sym i) ∙ n)

  comes : (b : Back) → returns p b ≡ true → Returns p b
  comes again e = is-written p.area e
  comes (others bs) e =
      let f = both (writes p bs) (not (same bs p.area)) e in
      (is-written bs f.0, is-other bs f.0 (not-true _ f.1))

  pub good-holds : good p ≡ true → Holds p
  good-holds e =
      let f = both (reads p) _ e in
      let g = both (returns p p.back) _ f.1 in
      let h = both (takes p) _ g.1 in
      record {
        read = is_read f.0;
        returns = comes p.back g.0;
        taken = taken_true _ _ h.0;
        said = every-all (passes p) (Means p) means p.says h.1;
      }
