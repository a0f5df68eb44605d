-- Slots and their records: one more slot, slots in order, and the octets that their records are written to. Assumes nothing.
use Rattle.std.specs.Prelude.{◌≡◌, refl, Bool, true, ℕ, ◌+◌, ◌-◌, ◌≤◌, ◌<◌, get_or, take, drop}
use Rattle.std.proofs.Math.Path.{sym, ap, subst⁻¹}
use Rattle.std.proofs.Common.{◌∙◌, subst, arith}
use mathlib.Core.List.{List, [], ◌∷◌, ◌++◌, map}
use Rattle.std.proofs.Math.ListN.{length}
use Rattle.std.proofs.lemmas.List.{length-map}
use Rattle.std.proofs.Math.Seq.{take-length}
use Rattle.octets.specs.Over.{Wrote}
use Rattle.octets.specs.OverLaws.{over-length, then, wrote_none}
use Rattle.carriers.specs.declared.Carrier.{Carrier}
use Rattle.frames.specs.Step.{part}
use Rattle.blocks.specs.Block.{Fields}
use Rattle.order.specs.declared.slots.Slot.{Slot}
use Rattle.order.specs.declared.slots.Slots.{Slots}
use Rattle.order.specs.declared.Sorting.{Sorting}
use Rattle.octets.specs.Lists.{All}
use Rattle.octets.specs.ListsLaws.{all_map, all-at}
use Rattle.order.specs.Order.{SameKey}
use Rattle.order.specs.OrderLaws.{sort-length}
use Rattle.order.specs.MapLaws.{each-sort, sort-map-on}
use Rattle.order.specs.Listed.{rank, none, listed, OrderedFrom}
use Rattle.records.specs.Records.{Outcome, faulty, kept, record_of}
use Rattle.records.specs.Yielded.{outcome_of}
use Rattle.records.specs.Examined.{Verdict, Clean, Kept, octets_in, examined_of}
use Rattle.sheets.specs.Sheets.{front_of, records_of, sheet_of}
use Rattle.sheets.specs.SheetsLaws.{length_front, length-sheet}
use Rattle.reading.specs.Reading.{in_order}
use Rattle.reading.specs.Walks.{laid, octets_at, Written}
use Rattle.reading.specs.ListLaws.{laid_next, laid-room, sort-laid}
use Rattle.reading.specs.Tally.{body_at, record_in, record_at, records_at, Good, slot_of, Sound}

-- ---- one slot

module _ (c : Carrier) (source : List ℕ) where
  module _ (start end : ℕ) {f : Fields} {e : Verdict} (o : outcome_of c (part start end source) ≡ kept f) (q : e ≡ examined_of c (kept f) e.clean) where
    pub slot-record : record_at c source (slot_of e start end) ≡ f
    slot-record = ap record_in o

    pub slot-good : {claimed : Bool} → start ≤ end → end ≤ length source → (claimed ≡ true → Clean c (part start end source))
        → Good c source claimed (slot_of e start end)
    slot-good h k all = record {
      within = omega arith;
      yields = subst⁻¹ Kept o tt;
      ranked = ap (λ (r : Fields). r.priority) slot-record ∙ sym (ap (λ (x : Verdict). x.priority) q);
      clean = all;
    }

  -- where no more is claimed, each slot stays good
  pub good-still : (was claimed : Bool) → (claimed ≡ true → was ≡ true) → (l : List Slot) → All (Good c source was) l → All (Good c source claimed) l
  good-still was claimed less l e =
      all_map (Good c source was) (Good c source claimed) l
      (λ s g. record { within = g.within; yields = g.yields; ranked = g.ranked; clean = λ t. g.clean (less t) })
      e

  octets-record : (o : Outcome) → Kept o → record_of c (record_in o) ≡ octets_in c o
  octets-record (faulty k) h = absurd h
  octets-record (kept r) h = refl

  pub laid-records : (claimed : Bool) (l : List Slot) → All (Good c source claimed) l
      → records_of c (map (record_at c source) l) ≡ laid (octets_at c source) l
  laid-records claimed [] e = refl
  laid-records claimed (s ∷ ss) e =
      let h = octets-record (outcome_of c (body_at source s)) e.0.yields in
      ap (λ (l : List ℕ). record_of c (record_at c source s) ++ l) (laid-records claimed ss e.1) ∙ ap (λ (l : List ℕ). l ++ laid (octets_at c source) ss) h

  -- a slot's body as the code cuts it out
  body-cut : (s : Slot) → part s.place (s.place + s.length) source ≡ body_at source s
  body-cut s =
      let e : s.place + s.length - s.place ≡ s.length = omega arith in
      ap (λ (n : ℕ). take n (drop s.place source)) e

  module _ {s : Slot} {claimed : Bool} (g : Good c source claimed s) where
    pub cut-kept : Kept (outcome_of c (part s.place (s.place + s.length) source))
    cut-kept = subst⁻¹ (λ (b : List ℕ). Kept (outcome_of c b)) (body-cut s) g.yields

    pub cut-clean : claimed ≡ true → Clean c (part s.place (s.place + s.length) source)
    cut-clean t = subst⁻¹ (λ (b : List ℕ). Clean c b) (body-cut s) (g.clean t)

  cut-octets : (s : Slot) → octets_in c (outcome_of c (part s.place (s.place + s.length) source)) ≡ octets_at c source s
  cut-octets s = ap (λ (b : List ℕ). octets_in c (outcome_of c b)) (body-cut s)

-- ---- slots in order

module _ (c : Carrier) (source : List ℕ) {claimed : Bool} {slots : Slots} {r : Sorting} (s : Sound c source claimed slots) (o : OrderedFrom slots r) where
  pub ordered-length : length (listed r.slots) ≡ slots.count
  ordered-length = ap length o.list ∙ sort-length rank (listed slots) ∙ s.whole

  pub ordered-good : All (Good c source claimed) (listed r.slots)
  ordered-good = subst⁻¹ (All (Good c source claimed)) o.list (each-sort (Good c source claimed) rank (listed slots) s.good)

  pub ordered_at : {i : ℕ} {x : Slot} → i < r.slots.count → x ≡ get_or (listed r.slots) i none → Good c source claimed x
  ordered_at {i} h e =
      subst⁻¹ (Good c source claimed) e
      (all-at (Good c source claimed) none (listed r.slots) ordered-good i (omega (arith, o.count, ordered-length)))

  -- the records of slots in order are the records in order
  pub ordered-records : records_at c source r.slots ≡ in_order (records_at c source slots)
  ordered-records =
      ap (map (record_at c source)) o.list
      ∙ sort-map-on rank (λ (f : Fields). f.priority) (record_at c source) (listed slots)
      (all_map (Good c source claimed) (SameKey rank (λ (f : Fields). f.priority) (record_at c source)) (listed slots) (λ x g. g.ranked) s.good)

  -- and have as many octets
  pub ordered-size : length (laid (octets_at c source) (listed r.slots)) ≡ length (records_of c (records_at c source slots))
  ordered-size =
      ap (λ (l : List Slot). length (laid (octets_at c source) l)) o.list
      ∙ sort-laid (octets_at c source) rank (listed slots)
      ∙ ap length (sym (laid-records c source claimed (listed slots) s.good))

-- ---- a sheet as it is written

module _ {c : Carrier} {source : List ℕ} {l : List Slot} {at : ℕ} {out : List ℕ} {i o : ℕ} {out' : List ℕ} (w : Written c source l at out i o out') where
  pub written-length : length out' ≡ length out
  written-length = ap length w.wrote.laid ∙ over-length at (laid (octets_at c source) (take i l)) out w.wrote.room

  module _ {x : Slot} (h : i < length l) (e : x ≡ get_or l i none) where
    next-octets : octets_in c (outcome_of c (part x.place (x.place + x.length) source)) ≡ octets_at c source (get_or l i none)
    next-octets = cut-octets c source x ∙ ap (octets_at c source) e

    pub written-room : o + length (octets_in c (outcome_of c (part x.place (x.place + x.length) source))) ≤ length out'
    written-room =
        omega (arith, w.wrote.next, w.room, written-length, laid-room (octets_at c source) none l i h, ap length next-octets)

    pub written_next : {o' : ℕ} {out'' : List ℕ} → Wrote o (octets_in c (outcome_of c (part x.place (x.place + x.length) source))) out' o' out''
        → Written c source l at out (i + 1) o' out''
    written_next {o'} {out''} v = record {
      within = omega arith;
      room = w.room;
      wrote =
          subst⁻¹ (λ (b : List ℕ). Wrote at b out o' out'')
          (laid_next (octets_at c source) none l i h ∙ ap (λ (b : List ℕ). laid (octets_at c source) (take i l) ++ b) (sym next-octets))
          (then w.wrote v);
    }

  pub written_all : length l ≤ i → Wrote at (laid (octets_at c source) l) out o out'
  written_all h =
      let e : i ≡ length l = omega (arith, w.within) in
      subst (λ (b : List Slot). Wrote at (laid (octets_at c source) b) out o out') (ap (λ (k : ℕ). take k l) e ∙ take-length l) w.wrote

-- the sheet of sound slots in order: its head and then the slots' records
module _ (c : Carrier) (source : List ℕ) {claimed : Bool} {slots : Slots} {r : Sorting} (s : Sound c source claimed slots) (o : OrderedFrom slots r) where
  sheet-laid : front_of c r.slots.count ++ laid (octets_at c source) (listed r.slots) ≡ sheet_of c (in_order (records_at c source slots))
  unfolding sheet_of
  sheet-laid =
      let n : r.slots.count ≡ length (in_order (records_at c source slots)) =
      o.count
      ∙ sym s.whole
      ∙ sym (length-map (listed slots) (record_at c source))
      ∙ sym (sort-length (λ (f : Fields). f.priority) (records_at c source slots)) in
      ap (λ (b : List ℕ). front_of c r.slots.count ++ b)
      (sym (laid-records c source claimed (listed r.slots) (ordered-good c source s o)) ∙ ap (records_of c) (ordered-records c source s o))
      ∙ ap (λ (k : ℕ). front_of c k ++ records_of c (in_order (records_at c source slots))) n

  module _ {out out' : List ℕ} {at : ℕ} (w : Wrote 0 (front_of c r.slots.count) out at out') where
    pub written_start : length (sheet_of c (records_at c source slots)) ≤ length out → Written c source (listed r.slots) at out' 0 at out'
    written_start h =
        let same : length out' ≡ length out = ap length w.laid ∙ over-length 0 (front_of c r.slots.count) out w.room in
        let room : at + length (laid (octets_at c source) (listed r.slots)) ≤ length out' =
        omega (arith, w.next, length_front c r.slots.count, ordered-size c source s o, length-sheet c (records_at c source slots)) in
        record { within = omega arith; room = room; wrote = wrote_none (omega arith) }

    pub sheet-written : {i o' : ℕ} {out'' : List ℕ} → Written c source (listed r.slots) at out' i o' out'' → slots.count ≤ i
        → Wrote 0 (sheet_of c (in_order (records_at c source slots))) out o' out''
    sheet-written {i} {o'} {out''} v h =
        subst (λ (b : List ℕ). Wrote 0 b out o' out'') sheet-laid (then w (written_all v (omega (arith, ordered-length c source s o))))
