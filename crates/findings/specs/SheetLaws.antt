-- Why a name of a sheet is bad: each turn of the walk over its records, and that what is told of a sheet that is refused by 22 is about the name that is
-- wrong (RULES T8). Assumes nothing.
use Rattle.std.specs.Prelude.{◌≡◌, refl, false, ℕ, ◌+◌, ◌-◌, ◌≤◌, ◌<◌, take, drop}
use Rattle.std.proofs.Math.Path.{sym, ap}
use Rattle.std.proofs.Common.{◌∙◌, arith, le-leb, length-append}
use mathlib.Core.List.{List, [], ◌∷◌, ◌++◌}
use Rattle.std.proofs.lemmas.Bool.{lt-leb}
use Rattle.std.proofs.Math.ListN.{length}
use Rattle.carriers.specs.declared.Carrier.{Carrier}
use Rattle.blocks.specs.Block.{Fields}
use Rattle.blocks.specs.Parts.{fields_in}
use Rattle.records.specs.Records.{head_size, record_of}
use Rattle.records.specs.RecordsLaws.{length-record}
use Rattle.sheets.specs.Sheets.{front_size}
use Rattle.sheets.specs.Sheets as sheets
use Rattle.taking.specs.declared.Record.{Record}
use Rattle.taking.specs.Taking.{Taken, refuse, take_of}
use Rattle.taking.specs.Spot.{spot_of}
use Rattle.taking.specs.Shown.{Shown}
use Rattle.taking.specs.Standing.{Step}
use Rattle.taking.specs.StandingLaws.{taken-standing}
use Rattle.taking.specs.TurnsLaws.{standing-done, shown-name, shown-next, shown-step, shown-first, shown-standing}
use Rattle.taking.specs.Exactly.{sheet-taken}
use Rattle.vetting.specs.Weighing.{records_of, TakenAs}
use Rattle.written.specs.Wrong.{WrongName}
use Rattle.reasons.specs.Names.{name_reason}
use Rattle.findings.specs.Sheet.{reason_from, reason_in, sheet_reason, Seeking}

-- ---- records

module _ (c : Carrier) (at : ℕ) (r : Fields) (rs : List Fields) (place : ℕ) where
  reason-there : place ≤ at + head_size + length r.name → reason_from c at (r ∷ rs) place ≡ name_reason false r.name (place - (at + head_size))
  unfolding reason_from
  reason-there h = rw (le-leb place (at + head_size + length r.name) h)

  reason-past : at + head_size + length r.name < place → reason_from c at (r ∷ rs) place ≡ reason_from c (at + length (record_of c r)) rs place
  unfolding reason_from
  reason-past h = rw (lt-leb place (at + head_size + length r.name) h)

-- ---- the walk

pub seeking-start : (c : Carrier) (s : List ℕ) (place : ℕ) → TakenAs c s → Seeking c s place front_size
seeking-start c s place e = record { rest = records_of s; standing = (taken-standing s e).0; same = refl }

module _ {c : Carrier} {s : List ℕ} {place at : ℕ} (w : Seeking c s place at) where
  -- where none is left
  pub seeking-end : (spot_of c s at).good ≡ false → 0 ≡ reason_from c front_size (records_of s) place
  unfolding reason_from
  seeking-end h = sym (w.same ∙ ap (λ (rs : List Fields). reason_from c at rs place) (standing-done w.standing h))

  module _ {x : Record} (h : Shown s at (spot_of c s at) x) where
    step : Step c s at w.rest (spot_of c s at)
    step = shown-step c s at h w.standing

    first : Fields
    first = fields_in x.parts

    here : reason_from c front_size (records_of s) place ≡ reason_from c at (first ∷ step.rest) place
    unfolding first step
    here =
        w.same
        ∙ ap (λ (rs : List Fields). reason_from c at rs place) (step.are ∙ ap (λ (r : Fields). r ∷ step.rest) (sym (shown-first c s at h w.standing)))

    -- the name ends at the place or after it
    pub seeking-found : place ≤ x.name + length x.parts.name.now → {r n : ℕ} → n ≡ place - x.name → r ≡ name_reason false x.parts.name.now n
        → r ≡ reason_from c front_size (records_of s) place
    unfolding first
    seeking-found k {r} {n} m i =
        let at_name : place - x.name ≡ place - (at + head_size) = ap (λ (y : ℕ). place - y) (shown-name c s at h) in
        i
        ∙ ap (name_reason false x.parts.name.now) (m ∙ at_name)
        ∙ sym (here ∙ reason-there c at first step.rest place (omega (arith, shown-name c s at h)))

    -- or before it
    pub seeking-next : x.name + length x.parts.name.now < place → Seeking c s place x.next
    unfolding first step
    seeking-next k =
        record {
          rest = step.rest;
          standing = shown-standing c s at h w.standing;
          same =
              here
              ∙ reason-past c at first step.rest place (omega (arith, shown-name c s at h))
              ∙ ap (λ (n : ℕ). reason_from c n step.rest place) (sym (shown-next c s at h));
        }

-- ---- a sheet

module _ (s : List ℕ) (place : ℕ) where
  pub sheet-refused : {k : ℕ} → take_of s ≡ refuse k → 0 ≡ sheet_reason s place
  unfolding sheet_reason
  sheet-refused e = rw e

  pub sheet-taken-reason : {c : Carrier} → TakenAs c s → reason_from c front_size (records_of s) place ≡ sheet_reason s place
  unfolding sheet_reason
  sheet-taken-reason e = sym (ap (λ (t : Taken). reason_in t place) e)

-- after records whose names end before it, the name in which the place is
reason-wrong : (c : Carrier) (at : ℕ) (before : List Fields) (r : Fields) (after : List Fields) (place : ℕ)
    → let start : ℕ = at + length (sheets.records_of c before) + head_size in
    start ≤ place → place ≤ start + length r.name → reason_from c at (before ++ (r ∷ after)) place ≡ name_reason false r.name (place - start)
reason-wrong c at [] r after place low high =
    let same : at + head_size ≡ at + 0 + head_size = omega arith in
    reason-there c at r after place (omega arith) ∙ ap (λ (n : ℕ). name_reason false r.name (place - n)) same
reason-wrong c at (q ∷ before) r after place low high =
    let long = length-append (record_of c q) (sheets.records_of c before) in
    let size : head_size + length q.name ≤ length (record_of c q) = omega (arith, length-record c q) in
    let same : at + length (record_of c q) + length (sheets.records_of c before) + head_size ≡ at + length (sheets.records_of c (q ∷ before)) + head_size =
    omega (arith, long) in
    reason-past c at q (before ++ (r ∷ after)) place (omega (arith, long, size))
    ∙ reason-wrong c (at + length (record_of c q)) before r after place (omega (arith, long)) (omega (arith, long))
    ∙ ap (λ (n : ℕ). name_reason false r.name (place - n)) same

-- what is told is why the name that is wrong is bad at its first bad octet
pub sheet-why : (s : List ℕ) (p : ℕ) (w : WrongName s p) → sheet_reason s p ≡ name_reason false w.wrong.name (p - w.start)
unfolding sheet_reason
sheet-why s p w =
    ap (λ (t : Taken). reason_in t p) (sheet-taken s w.carrier (w.before ++ (w.wrong ∷ w.after)) w.is)
    ∙ reason-wrong w.carrier front_size w.before w.wrong w.after p (omega (arith, w.starts, w.from))
    (omega (arith, w.starts, w.from, w.bad.within))
    ∙ ap (λ (n : ℕ). name_reason false w.wrong.name (p - n)) (sym w.starts)
