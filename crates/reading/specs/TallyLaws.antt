-- How a tally begins and grows, over the blocks of an area and over the instances of joined data. Assumes nothing.
use Rattle.std.specs.Prelude.{◌≡◌, refl, Bool, true, false, List, [], ◌∷◌, ◌++◌, map, ℕ, ◌+◌, ◌-◌, ◌≤◌, ◌<◌, length, drop, Ok}
use Rattle.std.proofs.Common.{sym, ap, ◌∙◌, ⊎_elim, append-nil, arith, lt-ltb, le-ltb, ltb-false, length-append}
use Rattle.std.proofs.Math.Path.{subst⁻¹}
use Rattle.std.proofs.lemmas.List.{map-append, length-map}
use Rattle.octets.specs.Numbers.{at16}
use Rattle.numbers.specs.Fault as fault
use Rattle.numbers.specs.Limit as limit
use Rattle.carriers.specs.declared.Carrier.{Carrier}
use Rattle.carriers.specs.declared.Carrier.TheVariants.{Dhcp4}
use Rattle.carriers.specs.Carriers.{header_of}
use Rattle.frames.specs.declared.Step.{Step}
use Rattle.frames.specs.Step.{part, step_at}
use Rattle.frames.specs.Skip.{Skips}
use Rattle.frames.specs.SkipLaws.{skips-forward}
use Rattle.frames.specs.WalkLaws.{walked_start, walked_block, walked-skips}
use Rattle.frames.specs.Laws.{step_block}
use Rattle.blocks.specs.Block.{Fields}
use Rattle.judge.specs.Place.{Judged, judged, from}
use Rattle.order.specs.declared.slots.Slots.{Slots}
use Rattle.order.specs.OrderLaws.{le-or-lt}
use Rattle.octets.specs.Lists.{All}
use Rattle.octets.specs.ListsLaws.{flat_map_append, all_append}
use Rattle.order.specs.Listed.{listed}
use Rattle.records.specs.Records.{Outcome, faulty, kept, further, record_of}
use Rattle.records.specs.Yielded.{outcome_of}
use Rattle.records.specs.Examined.{Verdict, examined_of}
use Rattle.records.specs.RecordsLaws.{fault-some}
use Rattle.sheets.specs.Sheets.{front_size, records_of, sheet_of}
use Rattle.sheets.specs.SheetsLaws.{length-sheet}
use Rattle.reading.specs.Reading.{ahead, instances_from, joined_yield, alone}
use Rattle.reading.specs.Result.{Yield, discarded, yields, single, arrivals}
use Rattle.reading.specs.declared.Held.{Held}
use Rattle.reading.specs.Tally.{Good, record_at, slot_of, held_of, Seen, Grown, Keeps, Holds, Tally, tally_of, Shows, Open, Ready}
use Rattle.reading.specs.YieldLaws.{arrivals-more, discarded-more, discarded-few, first-yields, first-discarded, first-stays}
use Rattle.reading.specs.InstanceLaws.{instance-short, instance-past, instance-whole, instances-end, before-none, before-ahead, joined-some}
use Rattle.reading.specs.SlotLaws.{slot-record, slot-good, good-still}
use Rattle.reading.specs.Walks.{Tallying, Passed, before}

-- ---- what an examination says of a body

module _ {c : Carrier} {source : List ℕ} {start end : ℕ} {e : Verdict} (s : Seen c source start end e) where
  abbrev body : List ℕ
  body = part start end source

  same : {o : Outcome} → outcome_of c body ≡ o → e ≡ examined_of c o e.clean
  same p = s.tells ∙ ap (λ (o : Outcome). examined_of c o e.clean) p

  abbrev told : Judged
  told = judged e.fault e.place

  pub seen-faulty : (e.fault ≡ 0 → ⊥) → outcome_of c body ≡ faulty told
  seen-faulty n = go (outcome_of c body) refl
    where
      go : (o : Outcome) → outcome_of c body ≡ o → outcome_of c body ≡ faulty told
      go (faulty j) p = p ∙ ap faulty (sym (ap (λ (x : Verdict). judged x.fault x.place) (same p)))
      go (kept r) p = absurd (n (ap (λ (x : Verdict). x.fault) (same p)))

  pub seen-kept : e.fault ≡ 0 → (f : Fields) × (outcome_of c body ≡ kept f)
  seen-kept z = go (outcome_of c body) refl
    where
      go : (o : Outcome) → outcome_of c body ≡ o → (f : Fields) × (outcome_of c body ≡ kept f)
      go (faulty j) p = absurd (fault-some c body j p (sym (ap (λ (x : Verdict). x.fault) (same p)) ∙ z))
      go (kept r) p = (r, p)

-- ---- records kept

pub holds-none : (c : Carrier) (source : List ℕ) {s : Slots} → s.count ≡ 0 → listed s ≡ [] → Holds c source [] (held_of s front_size true false)
holds-none c source n l = record {
  count = n;
  small = omega arith;
  more = refl;
  lists = λ _. record { good = subst⁻¹ (All (Good c source true)) l tt; records = ap (map (record_at c source)) l; size = sym (length-sheet c []) };
}

pub holds-new : (c : Carrier) (source : List ℕ) {h : Held} → (h.slots.count ≡ 0) × (listed h.slots ≡ []) → h ≡ held_of h.slots front_size true false
    → Holds c source [] h
holds-new c source n e = subst⁻¹ (Holds c source []) e (holds-none c source n.0 n.1)

module _ {c : Carrier} {source : List ℕ} {rs : List Fields} {h : Held} (k : Holds c source rs h) where
  pub holds-few : h.slots.count ≤ limit.records
  holds-few = omega (arith, k.count)

  module _ {start end : ℕ} {e : Verdict} {f : Fields} (x : Seen c source start end e) (o : outcome_of c (part start end source) ≡ kept f) where
    longer : length (rs ++ (f ∷ [])) ≡ length rs + 1
    longer = length-append rs (f ∷ [])

    -- while there is room: one slot more
    pub holds_more : {s : Slots} {b : Bool} → Grown h e start end s b → Holds c source (rs ++ (f ∷ [])) (held_of s (h.size + e.size) b h.more)
    holds_more {s} {b} g =
        let few : length rs < limit.records = omega (arith, k.count, g.room) in
        let was = k.lists (omega arith) in
        let is : e ≡ examined_of c (kept f) e.clean = same x o in
        record {
          count = omega (arith, k.count, g.count, longer);
          small = omega (arith, k.small, g.count, x.small);
          more = k.more ∙ le-ltb limit.records (length rs) (omega arith) ∙ sym (le-ltb limit.records (length (rs ++ (f ∷ []))) (omega (arith, longer)));
          lists = λ _. record {
            good =
                subst⁻¹ (All (Good c source b)) g.list
                (all_append (Good c source b) (listed h.slots) (slot_of e start end ∷ [])
                (good-still c source h.clean b (λ t. (g.claims t).0) (listed h.slots) was.good)
                (slot-good c source start end o is x.low x.high (λ t. x.clean (g.claims t).1), tt));
            records =
                ap (map (record_at c source)) g.list
                ∙ map-append (record_at c source) (listed h.slots) (slot_of e start end ∷ [])
                ∙ ap (λ (l : List Fields). l ++ (record_at c source (slot_of e start end) ∷ [])) was.records
                ∙ ap (λ (x : Fields). rs ++ (x ∷ [])) (slot-record c source start end o is);
            size = omega (
              arith,
              was.size,
              length-sheet c rs,
              length-sheet c (rs ++ (f ∷ [])),
              ap (λ (x : Verdict). x.size) is,
              ap length (flat_map_append (record_of c) rs (f ∷ [])),
              length-append (records_of c rs) (records_of c (f ∷ [])),
              ap length (append-nil (record_of c f)),
            );
          };
        }

    -- with 16 slots: that there are more records
    pub holds-full : limit.records ≤ h.slots.count → Holds c source (rs ++ (f ∷ [])) (held_of h.slots h.size h.clean true)
    holds-full many = record {
      count = omega (arith, k.count, longer);
      small = k.small;
      more = sym (lt-ltb limit.records (length (rs ++ (f ∷ []))) (omega (arith, k.count, longer)));
      lists = λ l. absurd (omega (arith, k.count, longer));
    }

  -- where there are no more than 16, they can be written
  pub holds-ready : Ready c source h
  holds-ready m =
      let few : length rs ≤ limit.records = ltb-false limit.records (length rs) (sym k.more ∙ m) in
      let l = k.lists few in (
        record {
          few = holds-few;
          whole = omega (arith, sym (length-map (listed h.slots) (record_at c source)), ap length l.records, k.count);
          good = l.good;
        },
        l.size ∙ ap (λ (x : List Fields). length (sheet_of c x)) (sym l.records),
      )

-- ---- blocks

module _ {c : Carrier} {source : List ℕ} {ys : List Yield} {t : Tally} (s : Shows c source ys t) where
  pub shows-open : length ys < limit.input → Open t
  shows-open h = record {
    few = holds-few s.holds;
    small = s.holds.small;
    found = omega (arith, s.found);
    discarded = omega (arith, s.found, s.discarded, discarded-few ys);
  }

  -- one more block, which is discarded: only the first gives the fault and its place
  pub shows-discarded : {j k : Judged} → (t.discarded ≡ 0 → j ≡ k) → ((t.discarded ≡ 0 → ⊥) → j ≡ t.first)
      → Shows c source (ys ++ (discarded k ∷ [])) (tally_of t.held (t.found + 1) (t.discarded + 1) j)
  shows-discarded {j} {k} first later = record {
    holds = subst⁻¹ (λ (l : List Fields). Holds c source l t.held) (arrivals-more ys (discarded k) ∙ append-nil (arrivals ys)) s.holds;
    found = omega (arith, s.found, length-append ys (discarded k ∷ []));
    discarded = omega (arith, s.discarded, discarded-more ys (discarded k));
    first = ⊎_elim
        (λ l. let z : t.discarded ≡ 0 = omega arith in first z ∙ sym (first-discarded ys k (sym s.discarded ∙ z)))
        (λ l. later (λ e. omega arith) ∙ s.first ∙ sym (first-stays ys (discarded k) (λ e. omega (arith, s.discarded))))
        (le-or-lt t.discarded 0);
  }

  -- one more block, whose one record is kept
  pub shows_kept : {h : Held} (f : Fields) → Holds c source (arrivals ys ++ (f ∷ [])) h
      → Shows c source (ys ++ (yields (f ∷ []) ∷ [])) (tally_of h (t.found + 1) t.discarded t.first)
  shows_kept {h} f k = record {
    holds = subst⁻¹ (λ (l : List Fields). Holds c source l h) (arrivals-more ys (yields (f ∷ []))) k;
    found = omega (arith, s.found, length-append ys (yields (f ∷ []) ∷ []));
    discarded = omega (arith, s.discarded, discarded-more ys (yields (f ∷ [])));
    first = s.first ∙ sym (first-yields ys (f ∷ []));
  }

pub shows-none : {c : Carrier} {source : List ℕ} {h : Held} → Holds c source [] h → Shows c source [] (tally_of h 0 0 (judged 0 0))
shows-none k = record { holds = k; found = refl; discarded = refl; first = refl }

-- ---- the walk over an area

module _ (c : Carrier) (area : List ℕ) where
  pub tallying-start : {h : Held} → Holds c area [] h → Tallying c area 0 (tally_of h 0 0 (judged 0 0))
  tallying-start k = record { bodies = []; walked = walked_start c area; shows = shows-none k; behind = omega arith }

  module _ {at : ℕ} {t : Tally} (g : Tallying c area at t) where
    pub tallying-open : at < limit.input → Open t
    tallying-open h = shows-open g.shows (omega (arith, g.behind, length-map g.bodies (alone c)))

    pub tallying-skips : {to : ℕ} → Skips c area at to → Tallying c area to t
    tallying-skips s =
        record { bodies = g.bodies; walked = walked-skips c area g.walked s; shows = g.shows; behind = omega (arith, g.behind, skips-forward s) }

    module _ {start end : ℕ} (p : step_at c area at ≡ Ok (Step.Block start end)) where
      -- one more block, with what it yields
      on : {r : Tally} (y : Yield) → alone c (part start end area) ≡ y → Shows c area (map (alone c) g.bodies ++ (y ∷ [])) r → Tallying c area end r
      on {r} y e s =
          let m = step_block c area at p in
          record {
            bodies = g.bodies ++ (part start end area ∷ []);
            walked = walked_block c area g.walked p;
            shows =
                subst⁻¹ (λ (l : List Yield). Shows c area l r)
                (map-append (alone c) g.bodies (part start end area ∷ []) ∙ ap (λ (y : Yield). map (alone c) g.bodies ++ (y ∷ [])) e)
                s;
            behind = omega (arith, g.behind, m.0, length-append g.bodies (part start end area ∷ []));
          }

      module _ {e : Verdict} (x : Seen c area start end e) where
        pub tallying-discarded : {j : Judged} → (e.fault ≡ 0 → ⊥) → (t.discarded ≡ 0 → j ≡ from (header_of c) (judged e.fault e.place))
            → ((t.discarded ≡ 0 → ⊥) → j ≡ t.first) → Tallying c area end (tally_of t.held (t.found + 1) (t.discarded + 1) j)
        tallying-discarded n first later =
            on (discarded (from (header_of c) (told x))) (ap (λ (o : Outcome). single (further (header_of c) o)) (seen-faulty x n))
            (shows-discarded g.shows first later)

        module _ (z : e.fault ≡ 0) where
          pub tallying-kept : {s : Slots} {b : Bool} → Grown t.held e start end s b
              → Tallying c area end (tally_of (held_of s (t.held.size + e.size) b t.held.more) (t.found + 1) t.discarded t.first)
          tallying-kept a =
              let f = seen-kept x z in
              on (yields (f.0 ∷ [])) (ap (λ (o : Outcome). single (further (header_of c) o)) f.1) (shows_kept g.shows f.0 (holds_more g.shows.holds x f.1 a))

          pub tallying-full : limit.records ≤ t.held.slots.count
              → Tallying c area end (tally_of (held_of t.held.slots t.held.size t.held.clean true) (t.found + 1) t.discarded t.first)
          tallying-full a =
              let f = seen-kept x z in
              on (yields (f.0 ∷ [])) (ap (λ (o : Outcome). single (further (header_of c) o)) f.1) (shows_kept g.shows f.0 (holds-full g.shows.holds x f.1 a))

          pub tallying-keeps : {h : Held} → Keeps t.held e start end h → Tallying c area end (tally_of h (t.found + 1) t.discarded t.first)
          tallying-keeps =
              let on : Held → Type 0 = λ h. Tallying c area end (tally_of h (t.found + 1) t.discarded t.first) in
              ⊎_elim (λ g. subst⁻¹ on g.1 (tallying-kept g.0)) (λ f. subst⁻¹ on f.1 (tallying-full f.0))

-- ---- the walk over joined data

-- a block of joined data that is discarded, and nothing held
pub shows-joined-discarded : (joined : List ℕ) {h : Held} {j : Judged} → Holds Dhcp4 joined [] h → joined_yield joined ≡ discarded j
    → Shows Dhcp4 joined (joined_yield joined ∷ []) (tally_of h 1 1 j)
shows-joined-discarded joined {h} {j} n e =
    subst⁻¹ (λ (y : Yield). Shows Dhcp4 joined (y ∷ []) (tally_of h 1 1 j)) e (record { holds = n; found = refl; discarded = refl; first = refl })

module _ (joined : List ℕ) where
  pub passed_start : {h : Held} → (length joined ≡ 0 → ⊥) → Holds Dhcp4 joined [] h → Passed joined 0 h
  passed_start n k = record { records = []; within = omega arith; yields_on = joined-some joined n ∙ sym (before-none (instances_from 0 0 joined)); holds = k }

  module _ {at : ℕ} {h : Held} (g : Passed joined at h) where
    pub passed-short : at < length joined → length joined - at < 2 → joined_yield joined ≡ discarded (judged fault.field 0)
    passed-short i k = g.yields_on ∙ ap (before g.records) (instance-short joined at i k)

    module _ (i : at < length joined) (long : ℕ) (q : long ≡ at16 joined at) (k : 2 ≤ length joined - at) where
      pub passed-past : length joined - (at + 2) < long → joined_yield joined ≡ discarded (judged fault.field 0)
      passed-past l = g.yields_on ∙ ap (before g.records) (instance-past joined at i long q k l)

      module _ (l : long ≤ length joined - (at + 2)) {e : Verdict} (x : Seen Dhcp4 joined (at + 2) (at + 2 + long) e) where
        past : (o : Outcome) → outcome_of Dhcp4 (part (at + 2) (at + 2 + long) joined) ≡ o
            → joined_yield joined ≡ before g.records (ahead (further (at + 2) o) (instances_from 0 (at + 2 + long) (drop (at + 2 + long) joined)))
        past o p =
            g.yields_on
            ∙ ap (before g.records) (instance-whole joined at i long q k l)
            ∙ ap (λ (o : Outcome). before g.records (ahead (further (at + 2) o) (instances_from 0 (at + 2 + long) (drop (at + 2 + long) joined)))) p

        pub passed-faulty : {j : Judged} → (e.fault ≡ 0 → ⊥) → j ≡ from (at + 2) (judged e.fault e.place) → joined_yield joined ≡ discarded j
        passed-faulty n h = past (faulty (told x)) (seen-faulty x n) ∙ ap discarded (sym h)

        module _ (z : e.fault ≡ 0) where
          goes_on : {r : Held} (f : Fields) → outcome_of Dhcp4 (part (at + 2) (at + 2 + long) joined) ≡ kept f → Holds Dhcp4 joined (g.records ++ (f ∷ [])) r
              → Passed joined (at + 2 + long) r
          goes_on f p m = record {
            records = g.records ++ (f ∷ []);
            within = omega arith;
            yields_on = past (kept f) p ∙ before-ahead g.records f (instances_from 0 (at + 2 + long) (drop (at + 2 + long) joined));
            holds = m;
          }

          pub passed-kept : {s : Slots} {b : Bool} → Grown h e (at + 2) (at + 2 + long) s b
              → Passed joined (at + 2 + long) (held_of s (h.size + e.size) b h.more)
          passed-kept a = let f = seen-kept x z in goes_on f.0 f.1 (holds_more g.holds x f.1 a)

          pub passed-full : limit.records ≤ h.slots.count → Passed joined (at + 2 + long) (held_of h.slots h.size h.clean true)
          passed-full a = let f = seen-kept x z in goes_on f.0 f.1 (holds-full g.holds x f.1 a)

          pub passed-keeps : {h' : Held} → Keeps h e (at + 2) (at + 2 + long) h' → Passed joined (at + 2 + long) h'
          passed-keeps =
              let on : Held → Type 0 = Passed joined (at + 2 + long) in
              ⊎_elim (λ g. subst⁻¹ on g.1 (passed-kept g.0)) (λ f. subst⁻¹ on f.1 (passed-full f.0))

    -- all instances are passed: the tally of the one block
    pub passed-end : length joined ≤ at → Shows Dhcp4 joined (joined_yield joined ∷ []) (tally_of h 1 0 (judged 0 0))
    passed-end i =
        let y : joined_yield joined ≡ yields g.records =
        g.yields_on ∙ ap (before g.records) (instances-end joined at i) ∙ ap yields (append-nil g.records) in
        subst⁻¹ (λ (y : Yield). Shows Dhcp4 joined (y ∷ []) (tally_of h 1 0 (judged 0 0))) y (record {
          holds = subst⁻¹ (λ (l : List Fields). Holds Dhcp4 joined l h) (append-nil g.records) g.holds;
          found = refl;
          discarded = refl;
          first = refl;
        })
