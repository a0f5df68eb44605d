-- The ways through `examine`: what the places of the fields and the judge's answer make of a body. Assumes nothing.
use Rattle.std.specs.Prelude.{◌≡◌, Bool, List, ℕ, ◌≤◌, length}
use Rattle.std.proofs.Common.{ap, ◌∙◌, eq-eqb, ne_eqb}
use Rattle.numbers.specs.Fault as fault
use Rattle.carriers.specs.declared.Carrier.{Carrier}
use Rattle.carriers.specs.Carriers.{as_text}
use Rattle.blocks.specs.Block.{Fields}
use Rattle.blocks.specs.Parse.{Parsed, bad, fields, parse}
use Rattle.judge.specs.declared.Side.TheVariants.{Reading}
use Rattle.judge.specs.declared.Flaw.{Flaw}
use Rattle.judge.specs.Place.{judged, flawed}
use Rattle.judge.specs.Judge.{judged_by}
use Rattle.records.specs.Yielded.{on_parsed}
use Rattle.reasons.specs.Names.{name_reason}
use Rattle.reasons.specs.Params.{Param, param_for}
use Rattle.findings.specs.Troubles.{Trouble, trouble, plain, fine, laid_place, field_place, reason_of, judged_trouble, fields_trouble, trouble_of}
use Rattle.findings.specs.PlacedLaws.{param-within, judged-placed}

-- ---- fields

module _ (c : Carrier) (k : ℕ) (name : List ℕ) (place : ℕ) where
  pub reason-name : {text : Bool} {r : ℕ} → k ≡ fault.name → text ≡ as_text c → r ≡ name_reason text name place → r ≡ reason_of c k name place
  reason-name e t h = simp (eq-eqb _ _ e, ← t) h

  pub reason-none : (k ≡ fault.name → ⊥) → 0 ≡ reason_of c k name place
  reason-none n = simp (ne_eqb _ _ n)

module _ (c : Carrier) (f : Fields) where
  -- a flaw: the place in the name and the place of the parameter
  module _ (w : Flaw) (ej : flawed w ≡ judged_by Reading c f) {p : Param} (ep : p ≡ param_for (fault.number_of w.fault) f.parameters) where
    pub fields_within : (w.place ≤ length f.name) × (p.at ≤ length f.parameters)
    fields_within = (rw (← ej) at (judged-placed c f).inside, rw ep (param-within (fault.number_of w.fault) f.parameters))

    pub fields_told : {at reason : ℕ} → at ≡ field_place c (fault.number_of w.fault) (length f.name) (length f.addresses) w.place p.at
        → reason ≡ reason_of c (fault.number_of w.fault) f.name w.place
        → trouble (fault.number_of w.fault) at reason p.key ≡ fields_trouble c f
    unfolding judged_trouble
    fields_told ea er = simp (ea, er, ep, ← ej)

  pub fields_fine : judged 0 0 ≡ judged_by Reading c f → fine ≡ fields_trouble c f
  unfolding judged_trouble field_place param_for
  fields_fine e = simp (← e)

-- ---- a body, by its parts

module _ (c : Carrier) (b : List ℕ) where
  pub trouble-fields : {f : Fields} {t : Trouble} → fields f ≡ parse c b → t ≡ fields_trouble c f → t ≡ trouble_of c b
  unfolding trouble_of
  trouble-fields ef et = et ∙ ap (λ (x : Parsed). on_parsed x (λ k. plain k (laid_place k b)) (fields_trouble c)) ef

  pub trouble-laid : {k i : ℕ} {t : Trouble} → bad k ≡ parse c b → i ≡ laid_place k b → t ≡ plain k i → t ≡ trouble_of c b
  unfolding trouble_of
  trouble-laid e ei et = simp (← e, et, ei)
