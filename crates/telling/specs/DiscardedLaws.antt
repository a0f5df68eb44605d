-- A block is discarded where a trouble is found; and how the blocks of an area are counted one after another. Assumes nothing.
use Rattle.std.specs.Prelude.{◌≡◌, refl, Bool, true, false, cond, List, [], ◌∷◌, ◌++◌, map, ℕ, zero, suc, ◌+◌, ◌-◌, ◌≤◌, ltb, eqb, length, take, drop, Result, Ok, Err}
use Rattle.std.proofs.Common.{sym, ap₂, ◌∙◌, subst, arith}
use Rattle.std.proofs.Math.Path.{ap, subst⁻¹}
use Rattle.std.proofs.lemmas.List.{map-append}
use Rattle.std.proofs.Math.Seq.{take_at}
use Rattle.octets.specs.Lists.{flat}
use Rattle.octets.specs.Numbers.{at16}
use Rattle.octets.specs.Over.{over, Wrote}
use Rattle.numbers.specs.declared.Refusal.{Refusal}
use Rattle.carriers.specs.declared.Carrier.{Carrier}
use Rattle.carriers.specs.declared.Carrier.TheVariants.{Dhcp4}
use Rattle.carriers.specs.Carriers.{is_joined, header_of}
use Rattle.carriers.proofs.CarriersLaws.{by-joined}
use Rattle.numbers.specs.Fault as number
use Rattle.frames.specs.declared.Step.{Step}
use Rattle.frames.specs.declared.Gathered.{Gathered}
use Rattle.frames.specs.declared.Gathered.TheVariants.{Absent, One, Many}
use Rattle.frames.specs.Frame.{Framed, fault, framed, frame}
use Rattle.frames.specs.Area.{joined}
use Rattle.frames.specs.Step.{part, step_at}
use Rattle.frames.specs.ToldLaws.{refusal-some}
use Rattle.frames.specs.Walk.{Walked}
use Rattle.frames.specs.Gather.{Tells, Joins}
use Rattle.frames.specs.Laws.{step_block, step-skipped}
use Rattle.frames.specs.WalkLaws.{walked_start, walked_block, walked-skipped, walked_end, walked-fault}
use Rattle.frames.proofs.GatherLaws.{joins-broken, joins-whole}
use Rattle.judge.specs.Place.{judged}
use Rattle.records.specs.Records.{Outcome, faulty, kept, further}
use Rattle.records.specs.Yielded.{outcome_of}
use Rattle.records.specs.RecordsLaws.{fault-some}
use Rattle.reading.specs.Result.{Yield, discarded, yields, single, discards, discarded_in}
use Rattle.reading.specs.Reading.{ahead, instances_from, joined_yield, alone, yield_of}
use Rattle.reading.specs.YieldLaws.{discarded-more, discarded-few}
use Rattle.findings.specs.Troubles.{Trouble}
use Rattle.findings.specs.Troubles.{trouble_of, joined_trouble}
use Rattle.findings.specs.Told.{fault_in, block_fault}
use Rattle.findings.proofs.Exactly.{trouble-fault, joined-fault}
use Rattle.telling.specs.Discarded.{discards_body, discards_joined, Counted, Some}

-- ---- a fault has a number

abbrev Numbered : Yield → Type 0
Numbered (discarded j) = j.fault ≡ 0 → ⊥
Numbered (yields rs) = Unit {0}

-- wherever the body stands
single-numbered : (n : ℕ) (c : Carrier) (b : List ℕ) → Numbered (single (further n (outcome_of c b)))
single-numbered n c b = go (outcome_of c b) refl
  where
    go : (o : Outcome) → outcome_of c b ≡ o → Numbered (single (further n o))
    go (faulty j) e = fault-some c b j e
    go (kept r) e = tt

ahead-numbered : (o : Outcome) (y : Yield) → Numbered (single o) → Numbered y → Numbered (ahead o y)
ahead-numbered (faulty j) y h g = h
ahead-numbered (kept r) (discarded j) h g = g
ahead-numbered (kept r) (yields rs) h g = tt

instances-numbered : (k at : ℕ) (l : List ℕ) → Numbered (instances_from k at l)
unfolding instances_from
instances-numbered k at [] = tt
instances-numbered zero at (x ∷ xs) = go (ltb (length l) 2) (ltb (length l - 2) n) (instances-numbered (1 + n) (at + 1) xs)
  where
    l : List ℕ
    l = x ∷ xs

    n : ℕ
    n = at16 l 0

    body : List ℕ
    body = take n (drop 2 l)

    first : Outcome
    first = further (at + 2) (outcome_of Dhcp4 body)

    later : Yield
    later = instances_from (1 + n) (at + 1) xs

    go : (short past : Bool) → Numbered later
        → Numbered (cond short (discarded (judged number.field 0)) (cond past (discarded (judged number.field 0)) (ahead first later)))
    go true past h = λ z. omega arith
    go false true h = λ z. omega arith
    go false false h = ahead-numbered first later (single-numbered (at + 2) Dhcp4 body) h
instances-numbered (suc k) at (x ∷ xs) = instances-numbered k (at + 1) xs

joined-numbered : (b : List ℕ) → Numbered (joined_yield b)
unfolding joined_yield
joined-numbered b = go (eqb (length b) 0)
  where
    go : (t : Bool) → Numbered (cond t (discarded (judged number.field 0)) (instances_from 0 0 b))
    go true = λ z. omega arith
    go false = instances-numbered 0 0 b

-- ---- one block

some-discards : (y : Yield) {k : ℕ} → k ≡ block_fault y → (k ≡ 0 → ⊥) → 1 ≡ discards y
some-discards (discarded j) e n = refl
some-discards (yields rs) e n = absurd (n e)

none-discards : (y : Yield) {k : ℕ} → Numbered y → k ≡ block_fault y → k ≡ 0 → 0 ≡ discards y
none-discards (discarded j) h e z = absurd (h (sym e ∙ z))
none-discards (yields rs) h e z = refl

single-fault : (n : ℕ) (o : Outcome) → fault_in o ≡ block_fault (single (further n o))
single-fault n (faulty j) = refl
single-fault n (kept r) = refl

module _ (c : Carrier) (b : List ℕ) {t : Trouble} (e : t ≡ trouble_of c b) where
  body-fault : t.fault ≡ block_fault (alone c b)
  body-fault = ap (λ (t : Trouble). t.fault) e ∙ trouble-fault c b ∙ single-fault (header_of c) (outcome_of c b)

  pub body-discarded : (t.fault ≡ 0 → ⊥) → 1 ≡ discards_body c b
  body-discarded = some-discards (alone c b) body-fault

  pub body_kept : t.fault ≡ 0 → 0 ≡ discards_body c b
  body_kept = none-discards (alone c b) (single-numbered (header_of c) c b) body-fault

module _ (b : List ℕ) {t : Trouble} (e : t ≡ joined_trouble b) where
  data-fault : t.fault ≡ block_fault (joined_yield b)
  data-fault = ap (λ (t : Trouble). t.fault) e ∙ joined-fault b

  pub joined-discarded : (t.fault ≡ 0 → ⊥) → 1 ≡ discards_joined b
  joined-discarded = some-discards (joined_yield b) data-fault

  pub joined-kept : t.fault ≡ 0 → 0 ≡ discards_joined b
  joined-kept = none-discards (joined_yield b) (joined-numbered b) data-fault

-- ---- carriers 2 to 5: one block after another

-- of the bodies met before an index, n are discarded
pub record Counting (c : Carrier) (area : List ℕ) (at n : ℕ) : Type 0 where
  pub bodies : List (List ℕ)
  pub walked : Walked c area at bodies
  pub counted : n ≡ discarded_in (map (alone c) bodies)
  pub few : n ≤ at

module _ (c : Carrier) (area : List ℕ) where
  pub counting-start : Counting c area 0 0
  counting-start = record { bodies = []; walked = walked_start c area; counted = refl; few = omega arith }

  module _ {at n : ℕ} (g : Counting c area at n) where
    pub counting-block : {start end k : ℕ} → step_at c area at ≡ Ok (Step.Block start end) → k ≡ discards_body c (part start end area)
        → Counting c area end (n + k)
    counting-block {start} {end} {k} e q =
        let f : List ℕ → Yield = alone c in
        let b : List ℕ = part start end area in
        record {
          bodies = g.bodies ++ (b ∷ []);
          walked = walked_block c area g.walked e;
          counted = ap₂ (λ (i j : ℕ). i + j) g.counted q
              ∙ sym (ap discarded_in (map-append f g.bodies (b ∷ [])) ∙ discarded-more (map f g.bodies) (f b));
          few = omega (arith, g.few, step_block c area at e, q, discarded-few (f b ∷ []));
        }

    pub counting-skipped : {end : ℕ} → step_at c area at ≡ Ok (Step.Skipped end) → Counting c area end n
    counting-skipped e =
        record {
          bodies = g.bodies;
          walked = walked-skipped c area g.walked e;
          counted = g.counted;
          few = omega (arith, g.few, step-skipped c area at e);
        }

    pub counting-end : is_joined c ≡ false → step_at c area at ≡ Ok Step.End → Counted c (frame c area) n
    counting-end j e =
        let of : Bool → List ℕ → Yield = λ t b. cond t (joined_yield b) (alone c b) in
        subst⁻¹ (λ (f : Framed). Counted c f n) (walked_end c area g.walked e)
        (subst⁻¹ (λ (t : Bool). n ≡ discarded_in (map (of t) (cond t (joined g.bodies) g.bodies))) j g.counted)

    pub counting-fault : {r : Refusal} → step_at c area at ≡ Err r → Counted c (frame c area) n
    counting-fault e = subst⁻¹ (λ (f : Framed). Counted c f n) (walked-fault c area g.walked e) tt

-- ---- carrier 1

-- of which alone the options are joined
pub counted-joined : (c : Carrier) (area : List ℕ) (n : ℕ) → is_joined c ≡ true → Counted Dhcp4 (frame Dhcp4 area) n → Counted c (frame c area) n
counted-joined c area n =
    by-joined (λ (c : Carrier). is_joined c ≡ true → Counted Dhcp4 (frame Dhcp4 area) n → Counted c (frame c area) n)
    (λ t h. h) (λ c e t h. let z : ◌≡◌ {A = ℕ} 0 1 = cc in absurd (omega arith)) c

-- what is found is an own option, or an area that cannot be framed
pub found_some : (area : List ℕ) (f : Framed) (found : Result Gathered Refusal) → (found ≡ Ok Absent → ⊥) → Tells area f found → Some f
found_some area f (Err r) n t = λ z. absurd (omega (arith, t.0, z, refusal-some r))
found_some area f (Ok Absent) n t = absurd (n refl)
found_some area f (Ok (One start end)) n t = λ _. omega (arith, ap length t.2.1)
found_some area f (Ok (Many from)) n t = λ z. omega (arith, t.2 z)

-- without an own option there is no block
pub counted-absent : (area : List ℕ) (f : Framed) → Tells area f (Ok Absent) → Counted Dhcp4 f 0
counted-absent area fault t = tt
counted-absent area (framed bs) t = ap (λ (l : List (List ℕ)). discarded_in (map (yield_of Dhcp4) (joined l))) (sym t.1)

module _ (area l l' : List ℕ) where
  pub counted-broken : (n : ℕ) {r : Refusal} → Joins (frame Dhcp4 area) l (Err r) l' → Counted Dhcp4 (frame Dhcp4 area) n
  counted-broken n j = subst⁻¹ (λ (f : Framed). Counted Dhcp4 f n) (joins-broken (frame Dhcp4 area) l l' j).0 tt

  module _ {k : ℕ} (j : Joins (frame Dhcp4 area) l (Ok k) l') where
    wrote : (bs : List (List ℕ)) × (frame Dhcp4 area ≡ framed bs) × Wrote 0 (flat bs) l k l'
    wrote = joins-whole (frame Dhcp4 area) l l' k j

    front : take k l' ≡ flat wrote.0
    unfolding over
    front = ap (take k) wrote.2.laid ∙ take_at (flat wrote.0) _ k (omega (arith, wrote.2.next))

    -- the joined data are the one block
    pub counted-whole : (n : ℕ) → Some (frame Dhcp4 area) → n ≡ discards_joined (take k l') → Counted Dhcp4 (frame Dhcp4 area) n
    counted-whole n s e =
        subst⁻¹ (λ (f : Framed). Counted Dhcp4 f n) wrote.1
        (go wrote.0 (subst Some wrote.1 s refl) (e ∙ ap discards_joined front))
      where
        go : (bs : List (List ℕ)) → 1 ≤ length bs → n ≡ discards_joined (flat bs) → Counted Dhcp4 (framed bs) n
        go [] h q = absurd (omega arith)
        go (b ∷ bs) h q = omega arith
