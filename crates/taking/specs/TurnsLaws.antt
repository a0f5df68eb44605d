-- Going through the records of a sheet with `Records` or `record_at`: an invariant is `Standing c s at rest` for the records that are left, and a turn
-- moves it to the index after a record (`turn-shown`, `shown-standing`); where none is found, none is left (`turn-done`, `standing-done`). Assumes nothing.
use Rattle.std.specs.Prelude.{◌≡◌, refl, Bool, true, false, List, [], ℕ, ◌+◌, ◌≤◌, ◌<◌, ltb, length, Option, Some, None}
use Rattle.std.proofs.Common.{sym, ap, ◌∙◌, arith, ltb-true, ltb-false}
use Rattle.std.proofs.Math.Path.{subst⁻¹}
use Rattle.std.proofs.lemmas.Bool.{false≢true}
use Rattle.carriers.specs.declared.Carrier.{Carrier}
use Rattle.blocks.specs.Block.{Fields}
use Rattle.blocks.specs.Parts.{fields_in}
use Rattle.records.specs.Records.{head_size, record_of}
use Rattle.taking.specs.declared.Record.{Record}
use Rattle.taking.specs.Spot.{spot_of}
use Rattle.taking.specs.SpotLaws.{name-length, spot-name, spot-next}
use Rattle.taking.specs.declared.Records.{Records}
use Rattle.taking.specs.Shown.{Shown, Shows}
use Rattle.taking.specs.Turns.{Begins, Turns}
use Rattle.taking.specs.Standing.{Standing, none, one, Step}
use Rattle.taking.specs.StandingLaws.{past, stands-is, standing-step}

-- none is left where none is found
pub standing-done : {c : Carrier} {s : List ℕ} {at : ℕ} {rs : List Fields} → Standing c s at rs → (spot_of c s at).good ≡ false → rs ≡ []
standing-done (none e) k = refl
standing-done (one g f h) k = absurd (false≢true (sym k ∙ g))

-- a record that is found
module _ (c : Carrier) (s : List ℕ) (at : ℕ) {r : Record} (h : Shown s at (spot_of c s at) r) where
  pub shown-before : at < length s
  shown-before = go (ltb at (length s)) refl
    where
      go : (b : Bool) → ltb at (length s) ≡ b → at < length s
      go true t = ltb-true _ _ t
      go false t = absurd (false≢true (sym (past c s at (ltb-false _ _ t)) ∙ h.good))

  within : at ≤ length s
  within = omega (arith, shown-before)

  pub shown-name : r.name ≡ at + head_size
  shown-name = h.name ∙ spot-name c s at refl within h.good

  pub shown-next : r.next ≡ at + length (record_of c (fields_in r.parts))
  shown-next = h.next ∙ spot-next c s at refl within h.good ∙ ap (λ (f : Fields). at + length (record_of c f)) (sym h.fields)

  -- it has octets, and its end and its name are within the sheet
  pub shown-further : (at + head_size ≤ r.next) × (r.next ≤ length s)
  shown-further = let k = h.inside.further h.good in (omega (arith, h.next, k), omega (arith, h.next, h.inside.next))

  pub shown-within : r.name + length r.parts.name.now ≤ length s
  shown-within =
      let n : length r.parts.name.now ≡ (spot_of c s at).nlen = ap (λ (f : Fields). length f.name) h.fields ∙ name-length s (spot_of c s at) h.inside in
      omega (arith, n, h.name, h.inside.name)

  pub shown-short : length r.parts.name.now ≤ 255
  shown-short =
      let n : length r.parts.name.now ≡ (spot_of c s at).nlen = ap (λ (f : Fields). length f.name) h.fields ∙ name-length s (spot_of c s at) h.inside in
      omega (arith, n, h.sized.nlen)

  -- of the records that are left it is the first, and the others stand after it
  module _ {rs : List Fields} (k : Standing c s at rs) where
    abbrev pub shown-step : Step c s at rs (spot_of c s at)
    shown-step = standing-step refl k shown-before

    pub shown-first : fields_in r.parts ≡ shown-step.first
    shown-first = h.fields ∙ stands-is shown-step.stands

    pub shown-standing : Standing c s r.next shown-step.rest
    shown-standing = subst⁻¹ (λ (n : ℕ). Standing c s n shown-step.rest) h.next shown-step.standing

-- ---- a turn of `Records`

module _ {c : Carrier} {s : List ℕ} {at : ℕ} {i j : Records} (b : Begins c s at i) where
  turn-shows : (o : Option Record) → Turns i o j → Shows s at (spot_of c s at) o
  turn-shows o t = rw (b.carrier, b.sheet, b.begins) at t.shows

  pub turn-shown : (x : Record) → Turns i (Some x) j → Shown s at (spot_of c s at) x
  turn-shown x t = turn-shows (Some x) t

  pub turn-done : Turns i None j → (spot_of c s at).good ≡ false
  turn-done t = turn-shows None t

  pub turn-rest : (x : Record) → Turns i (Some x) j → Begins c s x.next j
  turn-rest x t = rw (b.carrier, b.sheet) at t.rest
