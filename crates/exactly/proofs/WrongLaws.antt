-- The fault and the place that a reading gives back are those of the first discarded block, and of fault 22 the place is that of its name's first bad octet
-- (RULES W10, W11). Assumes nothing.
use Rattle.std.proofs.Math.Path.{◌≡◌, refl, ap, subst, subst⁻¹}
use Rattle.std.proofs.Common.{sym, ◌∙◌, true≢false, append_assoc, eqb-true, length-append}
use Rattle.std.specs.Prelude.{Bool, true, false, cond, List, [], ◌∷◌, ◌++◌, ℕ, ◌+◌, ◌-◌, ◌≤◌, ◌<◌, eqb, length}
use native.Mathlib.Omega.{arith}
use Rattle.std.proofs.Math.Nat.{add-sub_cancel_left}
use Rattle.std.proofs.lemmas.Bool.{eqb-false}
use Rattle.octets.specs.Cases.{by-test}
use Rattle.octets.specs.Numbers.{be, Bytes}
use Rattle.octets.specs.NumbersLaws.{length-be}
use Rattle.octets.specs.ListsLaws.{all_map, all_right, stands-within}
use Rattle.octets.specs.Lists.{All}
use Rattle.octets.specs.Fields.{put_counted}
use Rattle.numbers.specs.Fault as fault
use Rattle.carriers.specs.declared.Carrier.{Carrier}
use Rattle.carriers.specs.declared.Carrier.TheVariants.{Dhcp4}
use Rattle.carriers.specs.Carriers.{number_of, code_of, header_of, head_width, lifetime_width, length_width, as_text, is_joined}
use Rattle.carriers.proofs.CarriersLaws.{by-joined}
use Rattle.names.specs.Names.{FirstBad}
use Rattle.frames.specs.Area.{IsOption, Area, blocks_of}
use Rattle.frames.specs.Area as area
use Rattle.blocks.specs.Block.{Fields, name_at}
use Rattle.blocks.specs.NameLaws.{name-there, name-stands}
use Rattle.judge.specs.declared.Side.TheVariants.{Reading}
use Rattle.judge.specs.Place.{Judged}
use Rattle.judge.specs.Place.{judged, from}
use Rattle.judge.specs.Allowed.{PlaceOf, in_name, nowhere}
use Rattle.judge.proofs.PlaceLaws.{named-service, place_none, placed-from}
use Rattle.records.specs.Records.{Outcome, faulty, kept, further}
use Rattle.reading.specs.declared.Reading as returned
use Rattle.reading.specs.Reading.{read_of}
use Rattle.reading.specs.Result.{Yield, discarded, yields, single, first_fault, Answer, refuse, done, Done, told, Reads}
use Rattle.exactly.specs.Answers.{BodyIs, short, misfilled, broken, Instances, past, first_faulty, later_faulty, one_more, BlockIs, one_body, no_instance, instances, BlocksAre, more, none, gives, ReadAs, Answers, no_carrier, too_long, unframed, too_many, no_room, is_done}
use Rattle.exactly.proofs.AnswersLaws.{answers-exactly}
use Rattle.exactly.specs.Wrong.{BodyIn, of_option, of_instance, WrongName, FirstDiscarded, FirstIn, WrongIn}

-- ---- a body

-- a place in a name
placed-in : {A : List ℕ → Type 0} {name : List ℕ} {at k p : ℕ} → PlaceOf A name at k p → k ≡ fault.name → (at ≤ p) × FirstBad A name (p - at)
placed-in {A} {name} {at} (in_name {i} b) e = (omega arith, subst⁻¹ (FirstBad A name) (add-sub_cancel_left at i) b)
placed-in (nowhere n) e = absurd (n e)

-- a body with fault 22 between other octets, and the place counted from the first of these
body-wrong : (c : Carrier) (front body rest : List ℕ) {j : Judged} → BodyIs c body (faulty j) → j.fault ≡ fault.name
    → WrongName c front body rest (from (length front) j).place
body-wrong c front body rest (short s) k = absurd (omega arith)
body-wrong c front body rest (misfilled m) k = absurd (omega arith)
body-wrong c front body rest (broken {f} l r n there) k =
    let here = placed-in (placed-from (length front) there) k in
    record {
      fields = f;
      laid = l;
      service = named-service Reading c f r k;
      start = length front + name_at c (length f.addresses);
      starts = refl;
      stands = stands-within front f.name body rest (name_at c (length f.addresses)) (name-there c body f l).whole (name-stands c body f l);
      from = here.0;
      bad = here.1;
    }

-- so by the octets before it, of which there are n
wrong-at : (c : Carrier) (front body rest : List ℕ) {n : ℕ} {i j : Judged} → length front ≡ n → from n i ≡ j → BodyIs c body (faulty i) → j.fault ≡ fault.name
    → WrongName c front body rest j.place
wrong-at c front body rest {n} {i} {j} long e is k =
    let same : from (length front) i ≡ j = ap (λ (m : ℕ). from m i) long ∙ e in
    subst (WrongName c front body rest) (ap (λ (j : Judged). j.place) same) (body-wrong c front body rest is (ap (λ (j : Judged). j.fault) e ∙ k))

-- ---- the instances of joined data

-- the first instance with a fault, after those that yield records
record Faulty (at : ℕ) (l : List ℕ) (j : Judged) : Type 0 where
  front : List ℕ
  body : List ℕ
  rest : List ℕ
  records : List Fields
  fault : Judged
  are : l ≡ front ++ put_counted 2 body rest
  small : length body < 65536
  yielding : Instances at front (yields records)
  is : BodyIs Dhcp4 body (faulty fault)
  counted : from (at + length front + 2) fault ≡ j

first-instance : {at : ℕ} {l : List ℕ} {j : Judged} → Instances at l (discarded j) → j.fault ≡ fault.name → Faulty at l j
first-instance (past some n) k = absurd (omega arith)
first-instance (first_faulty {at} {joined} {body} {rest} {j = i} b is) k =
    let same : at + 0 + 2 ≡ at + 2 = omega arith in
    record {
      front = [];
      body = body;
      rest = rest;
      records = [];
      fault = i;
      are = b.are;
      small = b.small;
      yielding = none;
      is = is;
      counted = ap (λ (n : ℕ). from n i) same;
    }
first-instance (later_faulty {at} {joined} {body} {rest} {r} b is later) k =
    let f = first-instance later k in
    let size : List ℕ = be 2 (length body) in
    let long : length (put_counted 2 body f.front) ≡ 2 + length body + length f.front =
    length-append size (body ++ f.front) ∙ omega (arith, length-be 2 (length body), length-append body f.front) in
    let same : at + length (put_counted 2 body f.front) + 2 ≡ at + 2 + length body + length f.front + 2 = omega arith in
    let after : List ℕ = put_counted 2 f.body f.rest in
    record {
      front = put_counted 2 body f.front;
      body = f.body;
      rest = f.rest;
      records = r ∷ f.records;
      fault = f.fault;
      are =
          b.are
          ∙ ap (put_counted 2 body) f.are
          ∙ ap (λ (x : List ℕ). size ++ x) (sym (append_assoc body f.front after))
          ∙ sym (append_assoc size (body ++ f.front) after);
      small = f.small;
      yielding = one_more (record { small = b.small; are = refl }) is f.yielding;
      is = f.is;
      counted = ap (λ (n : ℕ). from n f.fault) same ∙ f.counted;
    }

instances-nowhere : {at : ℕ} {l : List ℕ} {j : Judged} → Instances at l (discarded j) → (j.fault ≡ fault.name → ⊥) → j.place ≡ 0
instances-nowhere (past some n) k = refl
instances-nowhere (first_faulty {at} {j = i} b is) k = sym (place_none (at + 2) i.fault i.place k)
instances-nowhere (later_faulty b is later) k = instances-nowhere later k

-- ---- a block

-- where options are joined, the carrier is 1
joined-first : (c : Carrier) → is_joined c ≡ true → c ≡ Dhcp4
joined-first = by-joined (λ c. is_joined c ≡ true → c ≡ Dhcp4) (λ _. refl) (λ c e t. absurd (true≢false (sym t ∙ e)))

single-discarded : (n : ℕ) (o : Outcome) (j : Judged) → single (further n o) ≡ discarded j → (i : Judged) × (o ≡ faulty i) × (from n i ≡ j)
single-discarded n (faulty i) j e = (i, refl, (cc))
single-discarded n (kept r) j e = let z : ◌≡◌ {A = ℕ} 0 1 = cc in absurd (omega arith)

-- a body of the block with fault 22, and the place in the octets in which it is counted
abbrev Wrong : Carrier → List ℕ → List ℕ → ℕ → Type 0
Wrong c area block p = (front body rest : List ℕ) × BodyIn c area block front body rest × WrongName c front body rest p

-- an own option that stands in the area
record OptionIn (c : Carrier) (area block : List ℕ) : Type 0 where
  before : List ℕ
  whole : List ℕ
  after : List ℕ
  are : area ≡ before ++ (whole ++ after)
  is : IsOption c whole (code_of c) block

-- also after other octets
further-in : {c : Carrier} {area : List ℕ} (front : List ℕ) (block : List ℕ) → OptionIn c area block → OptionIn c (front ++ area) block
further-in front block o = record {
  before = front ++ o.before;
  whole = o.whole;
  after = o.after;
  are = ap (λ (l : List ℕ). front ++ l) o.are ∙ sym (append_assoc front o.before (o.whole ++ o.after));
  is = o.is;
}

-- each body of an area is that of such an option
option-in : {c : Carrier} {octets : List ℕ} {bodies : List (List ℕ)} → Area c octets bodies → All (OptionIn c octets) bodies
option-in area.none = tt
option-in {c} (area.padding {area = l} {bodies = bodies} j a) = all_map (OptionIn c l) (OptionIn c (0 ∷ l)) bodies (further-in (0 ∷ [])) (option-in a)
option-in (area.end j) = tt
option-in {c} (area.own {option = whole} {area = l} {bodies = bodies} i a) = (
  record { before = []; whole = whole; after = l; are = refl; is = i },
  all_map (OptionIn c l) (OptionIn c (whole ++ l)) bodies (further-in whole) (option-in a),
)
option-in {c} (area.foreign {option = whole} {area = l} {bodies = bodies} i n a) =
    all_map (OptionIn c l) (OptionIn c (whole ++ l)) bodies (further-in whole) (option-in a)

-- an option is its header and its body
option-wrong : (c : Carrier) (octets block : List ℕ) {i j : Judged} → is_joined c ≡ false → OptionIn c octets block → BodyIs c block (faulty i)
    → from (header_of c) i ≡ j → j.fault ≡ fault.name → Wrong c octets block j.place
option-wrong c octets block apart o is e k =
    let first : List ℕ = be (head_width c) o.is.stands in
    let second : List ℕ = be (head_width c) o.is.size in
    let header : List ℕ = first ++ second in
    let long : length header ≡ header_of c =
    length-append first second ∙ omega (arith, length-be (head_width c) o.is.stands, length-be (head_width c) o.is.size) in
    let same : o.whole ≡ header ++ block = o.is.laid ∙ sym (append_assoc first second block) in
    let there : octets ≡ o.before ++ ((header ++ block) ++ o.after) = o.are ∙ ap (λ (l : List ℕ). o.before ++ (l ++ o.after)) same in
    let option : IsOption c (header ++ block) (code_of c) block = subst (λ (l : List ℕ). IsOption c l (code_of c) block) same o.is in
    (header, block, [], of_option o.before header o.after apart there long option, wrong-at c header block [] long e is k)

-- the first instance with a fault
instances-wrong : (octets block : List ℕ) {j : Judged} → Instances 0 block (discarded j) → j.fault ≡ fault.name → Wrong Dhcp4 octets block j.place
instances-wrong octets block i k =
    let f = first-instance i k in
    let size : List ℕ = be 2 (length f.body) in
    let long : length (f.front ++ size) ≡ 0 + length f.front + 2 =
    length-append f.front size ∙ omega (arith, length-be 2 (length f.body)) in
    (f.front ++ size, f.body, f.rest, of_instance f.front f.body f.rest f.records refl f.are f.small f.yielding, wrong-at Dhcp4 (f.front ++ size) f.body f.rest long f.counted f.is k)

-- a block with fault 22, in carriers 2 to 5 of an option that stands in the area
block-wrong : (c : Carrier) (octets block : List ℕ) (j : Judged) {y : Yield} → (is_joined c ≡ false → OptionIn c octets block) → BlockIs c block y
    → y ≡ discarded j → j.fault ≡ fault.name → Wrong c octets block j.place
block-wrong c octets block j there (one_body {o} e i) q k =
    let s = single-discarded (header_of c) o j q in
    option-wrong c octets block e (there e) (subst (BodyIs c block) s.1 i) s.2 k
block-wrong c octets block j there (no_instance e n) q k = let z : judged fault.field 0 ≡ j = cc in absurd (omega (arith, ap (λ (j : Judged). j.fault) z))
block-wrong c octets block j there (instances e some i) q k =
    subst⁻¹ (λ (c : Carrier). Wrong c octets block j.place) (joined-first c e) (instances-wrong octets block (subst (Instances 0 block) q i) k)

-- and with another fault
block-nowhere : (c : Carrier) (block : List ℕ) (j : Judged) {y : Yield} → BlockIs c block y → y ≡ discarded j → (j.fault ≡ fault.name → ⊥) → j.place ≡ 0
block-nowhere c block j (one_body {o} e i) q k =
    let s = single-discarded (header_of c) o j q in
    let d : Judged = s.0 in
    ap (λ (j : Judged). j.place) (sym s.2) ∙ sym (place_none (header_of c) d.fault d.place (λ z. k (sym (ap (λ (j : Judged). j.fault) s.2) ∙ z)))
block-nowhere c block j (no_instance e n) q k = let z : judged fault.field 0 ≡ j = cc in ap (λ (j : Judged). j.place) (sym z)
block-nowhere c block j (instances e some i) q k = instances-nowhere (subst (Instances 0 block) q i) k

-- ---- the blocks of an area

-- a fault that blocks have together is that of the first that is discarded
first_found : {c : Carrier} {blocks : List (List ℕ)} {ys : List Yield} → BlocksAre c blocks ys → ((first_fault ys).fault ≡ 0 → ⊥)
    → FirstDiscarded c blocks (first_fault ys)
first_found none n = absurd (n refl)
first_found (more {block = block} {blocks = blocks} {y = discarded j} i later) n = record { before = []; block = block; after = blocks; are = refl; taken = tt; is = i }
first_found (more {block = block} {blocks = blocks} {y = yields rs} i later) n =
    let f = first_found later n in
    record {
      before = block ∷ f.before;
      block = f.block;
      after = f.after;
      are = ap (λ (l : List (List ℕ)). block ∷ l) f.are;
      taken = ((rs, i), f.taken);
      is = f.is;
    }

no-fault : {c : Carrier} {blocks : List (List ℕ)} {ys : List Yield} → BlocksAre c blocks ys → (first_fault ys).fault ≡ 0 → (first_fault ys).place ≡ 0
no-fault none z = refl
no-fault (more {block = block} {blocks = blocks} {y = discarded j} i later) z = block-nowhere _ block j i refl (λ e. omega arith)
no-fault (more {block = block} {blocks = blocks} {y = yields rs} i later) z = no-fault later z

-- ---- a reading

module _ (n : ℕ) (octets : List ℕ) (room : ℕ) (d : Done) (bytes : Bytes octets) (e : read_of n octets room ≡ done d) where
  -- what was read
  WasRead : Type 0
  WasRead = (c : Carrier) × (ys : List Yield) × (rs : List Fields) × (number_of c ≡ n) × ReadAs c octets ys rs × (d ≡ gives c ys rs)

  reads : WasRead
  unfolding WasRead
  reads = go ((answers-exactly n octets room (done d) bytes).0 e) refl
    where
      refused : {k : ℕ} → refuse k ≡ done d → ⊥
      refused q = let z : ◌≡◌ {A = ℕ} 0 1 = cc in omega arith

      go : {a : Answer} → Answers n octets room a → a ≡ done d
          → (c : Carrier) × (ys : List Yield) × (rs : List Fields) × (number_of c ≡ n) × ReadAs c octets ys rs × (d ≡ gives c ys rs)
      go (no_carrier never) q = absurd (refused q)
      go (too_long c h long) q = absurd (refused q)
      go (unframed c h whole never) q = absurd (refused q)
      go (too_many c h r many) q = absurd (refused q)
      go (no_room c h r few less) q = absurd (refused q)
      go (is_done c {ys} {rs} h r few fits) q = (c, ys, rs, h, r, (cc))

  -- the fault and the place are those of the first block that is discarded
  pub reading-first : (d.fault ≡ 0 → ⊥) → FirstIn n octets (judged d.fault d.place)
  unfolding WasRead
  reading-first some =
      let (c, ys, rs, h, r, q) = reads in
      let f = first_found r.blocks (λ z. some (ap (λ (d : Done). d.fault) q ∙ z)) in
      let same : first_fault ys ≡ judged d.fault d.place = ap (λ (d : Done). judged d.fault d.place) (sym q) in
      record { carrier = c; chosen = h; bodies = r.bodies; framed = r.framed; first = subst (FirstDiscarded c (blocks_of c r.bodies)) same f }

  -- in carriers 2 to 5 that block is the body of an option that stands in the area
  option-of : {j : Judged} (f : FirstIn n octets j) → is_joined f.carrier ≡ false → OptionIn f.carrier octets f.first.block
  option-of f apart =
      let c : Carrier = f.carrier in
      let blocks : f.bodies ≡ f.first.before ++ (f.first.block ∷ f.first.after) =
      ap (λ (b : Bool). cond b (area.joined f.bodies) f.bodies) (sym apart) ∙ f.first.are in
      let all : All (OptionIn c octets) (f.first.before ++ (f.first.block ∷ f.first.after)) =
      subst (All (OptionIn c octets)) blocks (option-in f.framed) in
      (all_right (OptionIn c octets) f.first.before (f.first.block ∷ f.first.after) all).0

  -- with fault 22 a body of that block has a name that is wrong there
  pub wrong_name : d.fault ≡ fault.name → WrongIn n octets d.place
  wrong_name k =
      let f = subst (λ (i : ℕ). FirstIn n octets (judged i d.place)) k (reading-first (λ z. omega arith)) in
      let (front, body, rest, stands, wrong) =
      block-wrong f.carrier octets f.first.block (judged fault.name d.place) (option-of f) f.first.is refl refl in
      record { found = f; front = front; body = body; rest = rest; stands = stands; wrong = wrong }

  -- and without it there is no place
  pub no_place : (d.fault ≡ fault.name → ⊥) → d.place ≡ 0
  unfolding WasRead
  no_place k = by-test (eqb d.fault 0) (λ _. d.place ≡ 0) (λ z. without (eqb-true _ _ z)) (λ z. some (eqb-false _ _ z))
    where
      without : d.fault ≡ 0 → d.place ≡ 0
      without z = let (c, ys, rs, h, r, q) = reads in ap (λ (d : Done). d.place) q ∙ no-fault r.blocks (sym (ap (λ (d : Done). d.fault) q) ∙ z)

      some : (d.fault ≡ 0 → ⊥) → d.place ≡ 0
      some s = let f = reading-first s in block-nowhere f.carrier f.first.block (judged d.fault d.place) f.first.is refl k

-- ---- a call of reading

module _ (n : ℕ) (octets sheet sheet' : List ℕ) (r : returned.Reading) (bytes : Bytes octets) (g : Reads (read_of n octets (length sheet)) sheet r sheet') where
  -- what it returned is what its answer tells
  by_answer : (P : returned.Reading → Type 0) → ((k : ℕ) → P (told (refuse k))) → ((d : Done) → read_of n octets (length sheet) ≡ done d → P (told (done d))) → P r
  by_answer P refused finished = subst⁻¹ P g.numbers (go (read_of n octets (length sheet)) refl)
    where
      go : (a : Answer) → read_of n octets (length sheet) ≡ a → P (told a)
      go (refuse k) e = refused k
      go (done d) e = finished d e

  -- where it returned fault 22, a name of the first discarded block is wrong at the place that it returned
  pub call-wrong-name : r.fault ≡ fault.name → WrongIn n octets r.place
  call-wrong-name =
      by_answer (λ r. r.fault ≡ fault.name → WrongIn n octets r.place) (λ k e. absurd (omega arith)) (λ d e. wrong_name n octets (length sheet) d bytes e)

  -- and with every other number it returned place 0
  pub call-no-place : (r.fault ≡ fault.name → ⊥) → r.place ≡ 0
  call-no-place = by_answer (λ r. (r.fault ≡ fault.name → ⊥) → r.place ≡ 0) (λ k h. refl) (λ d e. no_place n octets (length sheet) d bytes e)

-- a name begins after other octets, so its place is never 0
pub place-some : {c : Carrier} {front body rest : List ℕ} {p : ℕ} → WrongName c front body rest p → 0 < p
place-some {c} w =
    let m : ℕ = length w.fields.addresses in
    let after : 0 < name_at c m = by-test (as_text c) (λ t. 0 < cond t (4 + m) (2 + lifetime_width c + length_width c)) (λ _. omega arith) (λ _. omega arith) in
    omega (arith, w.starts, w.from)
