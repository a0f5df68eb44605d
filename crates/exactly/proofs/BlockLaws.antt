-- What becomes of a body, and of a block, is what `Answers` says and nothing else (RULES D2). Assumes nothing.
use Rattle.std.specs.Prelude.{◌≡◌, refl, Bool, true, false, cond, ◌↔◌, ◌⊎◌, ℕ, zero, suc, ◌+◌, ◌*◌, ◌/◌, ◌%◌, ◌≤◌, ◌<◌, ltb, eqb, length, take, drop}
use Rattle.std.proofs.Common.{sym, ap, ap₂, subst, ◌∙◌, inl, inr, arith, ltb-true, ltb-false, eqb-true, length-append, take-append-drop, length-take-le}
use Rattle.std.proofs.Math.Path.{subst⁻¹}
use mathlib.Core.List.{List, [], ◌∷◌, cons≢nil}
use Rattle.std.proofs.lemmas.Bool.{eqb-false}
use Rattle.octets.specs.Numbers.{at16, Bytes}
use Rattle.octets.specs.Fields.{put_counted}
use Rattle.numbers.specs.Fault as fault
use Rattle.carriers.specs.declared.Carrier.{Carrier}
use Rattle.carriers.specs.declared.Carrier.TheVariants.{Dhcp4}
use Rattle.carriers.specs.Carriers.{header_of}
use Rattle.carriers.proofs.CarriersLaws.{by-joined}
use Rattle.blocks.specs.Block.{Fields, name_at, Possible}
use Rattle.blocks.specs.Exactly.{parse-iff}
use Rattle.blocks.specs.Holding.{Laid, Short, Misfilled}
use Rattle.blocks.proofs.HoldingLaws.{short-exactly, misfilled-exactly, parsed-as}
use Rattle.judge.specs.declared.Side.TheVariants.{Reading}
use Rattle.judge.specs.Place.{judged, from}
use Rattle.judge.specs.Judge.{judged_by, fault_of}
use Rattle.judge.specs.Allowed.{NameAllowed, PlaceOf}
use Rattle.judge.proofs.AllowedLaws.{allowed-exactly, broken-exactly}
use Rattle.judge.proofs.PlaceLaws.{placed-exactly}
use Rattle.records.specs.Records.{Outcome, faulty, kept, further, keep_of}
use Rattle.records.specs.Yielded.{outcome_of}
use Rattle.records.specs.RecordsLaws.{yield-kept, yield-faulty, outcome-bad, outcome-fields}
use Rattle.reading.specs.Reading.{ahead, instances_from, joined_yield, alone, yield_of}
use Rattle.reading.specs.Result.{Yield, discarded, yields, single}
use Rattle.reading.specs.InstanceLaws.{instances-past, instance-ahead, joined-none, joined-some}
use Rattle.exactly.specs.PartsLaws.{counted-left, counted-right, parameters-bytes}
use Rattle.exactly.specs.Answers.{BodyIs, short, misfilled, broken, keeps, Begins, Instances, none, past, first_faulty, later_faulty, one_more, BlockIs, one_body, no_instance, instances}

-- ---- one body

module _ (c : Carrier) (b : List ℕ) (octets : Bytes b) (possible : Possible c b) where
  laid-octets : (f : Fields) → Laid c b f → f.full ≡ true → Bytes f.parameters
  laid-octets f l e = parameters-bytes c f e (subst Bytes l.0 octets)

  body-answers : {o : Outcome} → BodyIs c b o → outcome_of c b ≡ o
  body-answers (short s) = outcome-bad c b fault.field ((short-exactly c b octets).1 s)
  body-answers (misfilled m) = outcome-bad c b fault.padding ((misfilled-exactly c b octets).1 m)
  body-answers (broken {f} {k} {p} l r n there) =
      let at : ℕ = name_at c (length f.addresses) in
      let e : fault_of Reading c f ≡ k = (broken-exactly Reading c f k (laid-octets f l)).1 r in
      let q : (from at (judged_by Reading c f)).place ≡ p =
      (placed-exactly Reading c f at p).1 (subst⁻¹ (λ (k : ℕ). PlaceOf (NameAllowed Reading c) f.name at k p) e there) in
      outcome-fields c b f ((parse-iff c b f octets possible).1 l) ∙ yield-faulty c at f (λ z. n (sym e ∙ z)) ∙ ap₂ (λ (k p : ℕ). faulty (judged k p)) e q
  body-answers (keeps {f} l a) =
      outcome-fields c b f ((parse-iff c b f octets possible).1 l)
      ∙ yield-kept c (name_at c (length f.addresses)) f ((allowed-exactly Reading c f (laid-octets f l)).1 a)

  fields-become : (f : Fields) → Laid c b f → (o : Outcome) × BodyIs c b o
  fields-become f l = go (eqb (fault_of Reading c f) 0) refl
    where
      go : (allowed : Bool) → eqb (fault_of Reading c f) 0 ≡ allowed → (o : Outcome) × BodyIs c b o
      go true t = (kept (keep_of c f), keeps l ((allowed-exactly Reading c f (laid-octets f l)).0 (eqb-true _ _ t)))
      go false t =
          let at : ℕ = name_at c (length f.addresses) in
          let rule = (broken-exactly Reading c f (fault_of Reading c f) (laid-octets f l)).0 refl in
          (faulty (from at (judged_by Reading c f)), broken l rule (eqb-false _ _ t) ((placed-exactly Reading c f at _).0 refl))

  -- one of the four is so
  body-becomes : (o : Outcome) × BodyIs c b o
  body-becomes = go (parsed-as c b octets possible)
    where
      go : ((f : Fields) × Laid c b f) ⊎ (Short c b ⊎ Misfilled c b) → (o : Outcome) × BodyIs c b o
      go (inl (f, l)) = fields-become f l
      go (inr (inl s)) = (faulty (judged fault.field 0), short s)
      go (inr (inr m)) = (faulty (judged fault.padding 0), misfilled m)

  is_body : BodyIs c b (outcome_of c b)
  is_body = subst⁻¹ (BodyIs c b) (body-answers body-becomes.1) body-becomes.1

-- what becomes of a body: its fault, or its record
pub body_is : (c : Carrier) (b : List ℕ) (o : Outcome) → Bytes b → Possible c b → (outcome_of c b ≡ o) ↔ BodyIs c b o
body_is c b o octets possible = (λ e. subst (BodyIs c b) e (is_body c b octets possible), body-answers c b octets possible)

-- ---- the instances of joined data

-- octets begin with an instance where as many follow as the length says that stands first
begins-instance : (a b : ℕ) (m : List ℕ) → Bytes (a ∷ b ∷ m) → let n : ℕ = a * 256 + b in n ≤ length m → Begins (a ∷ b ∷ m) (take n m) (drop n m)
begins-instance a b m h k =
    let n : ℕ = a * 256 + b in
    let size : length (take n m) ≡ n = length-take-le n m k in
    let high : length (take n m) / 256 % 256 ≡ a = omega (arith, h.0, h.1.0) in
    let low : length (take n m) % 256 ≡ b = omega (arith, h.0, h.1.0) in
    record { small = omega (arith, h.0, h.1.0); are = rw (high, low, take-append-drop n m) }

-- the instance that stands first has as many octets as its length says, and they are there
begins-size : {l body rest : List ℕ} → Begins l body rest → (at16 l 0 ≡ length body) × (length l ≡ 2 + length body + length rest)
begins-size {l} {body} {rest} b =
    let size : at16 (put_counted 2 body rest) 0 ≡ length body = omega (arith, b.small) in
    (ap (λ (l : List ℕ). at16 l 0) b.are ∙ size, ap length b.are ∙ simp length-append (omega arith))

-- octets begin with an instance, or with none, and then the fault is 20
abbrev Begun : ℕ → List ℕ → Type 0
Begun at l =
    ((body rest : List ℕ) × Begins l body rest) ⊎ (((body rest : List ℕ) → Begins l body rest → ⊥) × (instances_from 0 at l ≡ discarded (judged fault.field 0)))

begun : (at : ℕ) (l : List ℕ) → Bytes l → (l ≡ [] → ⊥) → Begun at l
unfolding instances_from
begun at [] h n = absurd (n refl)
begun at (a ∷ []) h n = inr ((λ body rest b. omega (arith, (begins-size b).1)), refl)
begun at (a ∷ b ∷ m) h n = go (ltb (length m) (a * 256 + b)) refl
  where
    go : (t : Bool) → ltb (length m) (a * 256 + b) ≡ t → Begun at (a ∷ b ∷ m)
    go true t =
        let k : length m < a * 256 + b = ltb-true _ _ t in
        inr ((λ body rest i. let z = begins-size i in omega arith), instances-past at (a ∷ b ∷ m) (omega arith) (omega arith))
    go false t = inl (take (a * 256 + b) m, drop (a * 256 + b) m, begins-instance a b m h (ltb-false _ _ t))

-- the octets of an instance, and those after it
begins-octets : {l body rest : List ℕ} → Bytes l → Begins l body rest → Bytes body × Bytes rest
begins-octets {l} {body} {rest} h b =
    let octets : Bytes (put_counted 2 body rest) = subst Bytes b.are h in
    (counted-left 2 body rest octets, counted-right 2 body rest octets)

begins-ahead : (at : ℕ) {l body rest : List ℕ} → Begins l body rest
    → instances_from 0 at l ≡ ahead (further (at + 2) (outcome_of Dhcp4 body)) (instances_from 0 (at + 2 + length body) rest)
begins-ahead at {l} {body} {rest} b = ap (instances_from 0 at) b.are ∙ instance-ahead at body rest b.small

-- an instance in front of others
is-ahead : (at : ℕ) {l body rest : List ℕ} → Begins l body rest → (o : Outcome) → BodyIs Dhcp4 body o → (y : Yield)
    → Instances (at + 2 + length body) rest y → Instances at l (ahead (further (at + 2) o) y)
is-ahead at b (faulty j) i y later = first_faulty b i
is-ahead at b (kept r) i (discarded j) later = later_faulty b i later
is-ahead at b (kept r) i (yields rs) later = one_more b i later

-- by what is so of fewer octets
is-first : (at : ℕ) (l : List ℕ) → (l ≡ [] → ⊥) → Bytes l
    → ((at : ℕ) (m : List ℕ) → length m < length l → Bytes m → Instances at m (instances_from 0 at m)) → Begun at l → Instances at l (instances_from 0 at l)
is-first at l some h ih (inl (body, rest, b)) =
    let octets = begins-octets h b in
    let next : ℕ = at + 2 + length body in
    let later = ih next rest (omega (arith, (begins-size b).1)) octets.1 in
    rw (begins-ahead at b) (is-ahead at b (outcome_of Dhcp4 body) (is_body Dhcp4 body octets.0 tt) (instances_from 0 next rest) later)
is-first at l some h ih (inr b) = rw b.1 (past some b.0)

-- of fewer than n octets, and so of any
is-instances : (n at : ℕ) (l : List ℕ) → length l < n → Bytes l → Instances at l (instances_from 0 at l)
unfolding instances_from
is-instances zero at l less h = absurd (omega arith)
is-instances (suc n) at [] less h = none
is-instances (suc n) at (x ∷ xs) less h =
    is-first at (x ∷ xs) cons≢nil h (λ at m fewer. is-instances n at m (omega arith)) (begun at (x ∷ xs) h cons≢nil)

instances-answer : (at : ℕ) {l : List ℕ} {y : Yield} → Bytes l → Instances at l y → instances_from 0 at l ≡ y
unfolding instances_from
instances-answer at h none = refl
instances-answer at h (past {joined = joined} some n) = go (begun at joined h some)
  where
    go : Begun at joined → instances_from 0 at joined ≡ discarded (judged fault.field 0)
    go (inl (body, rest, b)) = absurd (n body rest b)
    go (inr b) = b.1
instances-answer at h (first_faulty {body = body} {rest = rest} b i) =
    begins-ahead at b
    ∙ ap (λ (o : Outcome). ahead (further (at + 2) o) (instances_from 0 (at + 2 + length body) rest)) (body-answers Dhcp4 body (begins-octets h b).0 tt i)
instances-answer at h (later_faulty {body = body} b i later) =
    let octets = begins-octets h b in
    begins-ahead at b
    ∙ ap₂ (λ (o : Outcome). ahead (further (at + 2) o)) (body-answers Dhcp4 body octets.0 tt i) (instances-answer (at + 2 + length body) octets.1 later)
instances-answer at h (one_more {body = body} b i later) =
    let octets = begins-octets h b in
    begins-ahead at b
    ∙ ap₂ (λ (o : Outcome). ahead (further (at + 2) o)) (body-answers Dhcp4 body octets.0 tt i) (instances-answer (at + 2 + length body) octets.1 later)

-- ---- one block

joined-instances : (b : List ℕ) → (b ≡ [] → ⊥) → joined_yield b ≡ instances_from 0 0 b
joined-instances [] n = absurd (n refl)
joined-instances (x ∷ xs) n = joined-some (x ∷ xs) (λ e. omega arith)

is-joined : (b : List ℕ) → Bytes b → BlockIs Dhcp4 b (joined_yield b)
is-joined [] h = rw (joined-none [] refl) (no_instance refl refl)
is-joined (x ∷ xs) h =
    rw (joined-instances (x ∷ xs) cons≢nil) (instances refl cons≢nil (is-instances (suc (length (x ∷ xs))) 0 (x ∷ xs) (omega arith) h))

is_block : (c : Carrier) (b : List ℕ) → Bytes b → Possible c b → BlockIs c b (yield_of c b)
is_block =
    by-joined (λ c. (b : List ℕ) → Bytes b → Possible c b → BlockIs c b (yield_of c b))
    (λ b h m. is-joined b h)
    (λ c e b h m. subst⁻¹ (λ (t : Bool). BlockIs c b (cond t (joined_yield b) (alone c b))) e (one_body e (is_body c b h m)))

block-answers : (c : Carrier) (b : List ℕ) {y : Yield} → Bytes b → Possible c b → BlockIs c b y → yield_of c b ≡ y
block-answers c b h m (one_body e i) = rw e (ap (λ (o : Outcome). single (further (header_of c) o)) (body-answers c b h m i))
block-answers c b h m (no_instance e n) = rw e (joined-none b (ap length n))
block-answers c b h m (instances e some i) = rw e (joined-instances b some ∙ instances-answer 0 h i)

-- what a block yields: its fault, or its records
pub block-is : (c : Carrier) (b : List ℕ) (y : Yield) → Bytes b → Possible c b → (yield_of c b ≡ y) ↔ BlockIs c b y
block-is c b y h m = (λ e. subst (BlockIs c b) e (is_block c b h m), block-answers c b h m)
