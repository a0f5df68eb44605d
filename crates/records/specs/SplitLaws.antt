-- What the parts that `split` answers say on each way through `examine` and `put_record`. Assumes nothing.
use Rattle.std.specs.Prelude.{◌≡◌, refl, Bool, true, false, cond, List, ℕ, ◌+◌, ◌≤◌, ◌<◌, eqb, length, Result, Ok, Err, MatchResult, IfOk, IsErrAnd}
use Rattle.std.proofs.Common.{sym, ap, ◌∙◌, arith, eqb-true}
use Rattle.std.proofs.Math.Path.{subst⁻¹}
use Rattle.octets.specs.Cases.{by-test}
use Rattle.octets.specs.Over.{Wrote}
use Rattle.numbers.specs.Fault as fault
use Rattle.numbers.specs.declared.Fault.{Fault}
use Rattle.numbers.specs.Limit as limit
use Rattle.carriers.specs.declared.Carrier.{Carrier}
use Rattle.carriers.specs.Carriers.{address_width, as_text}
use Rattle.blocks.specs.Block.{Fields, name_at}
use Rattle.blocks.specs.Parse.{bad, fields, parse}
use Rattle.blocks.specs.Parts.{InRange}
use Rattle.judge.specs.declared.Side.TheVariants.{Reading}
use Rattle.judge.specs.declared.Flaw.{Flaw}
use Rattle.judge.specs.Place.{from}
use Rattle.judge.specs.Judge.{judged_by, fault_of}
use Rattle.judge.specs.Passed.{Passed}
use Rattle.judge.specs.JudgeLaws.{carrier-width, fault-passed}
use Rattle.judge.proofs.PlaceLaws.{place-within}
use Rattle.records.specs.declared.Examined.{Examined}
use Rattle.records.specs.declared.Given.{Given}
use Rattle.records.specs.Records.{Outcome, faulty, kept, staying, keep_of, record_of}
use Rattle.records.specs.Yielded.{outcome_of, yield_of}
use Rattle.records.specs.Examined.{Verdict, examined_of, verdict_in, Clean, Kept, octets_in}
use Rattle.records.specs.Given.{record_as, GivenTail, Puttable}
use Rattle.records.specs.GivenLaws.{given-record}
use Rattle.records.specs.RecordsLaws.{yield-kept, outcome-bad, outcome-fields, name-small, kept-count-small, kept_small}
use Rattle.records.specs.CleanLaws.{clean-fields}

-- ---- what is answered

-- an answer is within its bounds
abbrev Bounded : ℕ → Verdict → Type 0
Bounded n v = (v.priority < 65536) × (v.size ≤ limit.record_size) × (v.place ≤ n)

yield-bounds : (c : Carrier) (at : ℕ) (f : Fields) (clean : Bool) → f.priority < 65536 → Bounded (at + length f.name) (examined_of c (yield_of c at f) clean)
yield-bounds c at f clean h = go (eqb (fault_of Reading c f) 0) refl
  where
    place : (from at (judged_by Reading c f)).place ≤ at + length f.name
    place =
        by-test (eqb (fault_of Reading c f) fault.name) (λ t. cond t (at + (judged_by Reading c f).place) 0 ≤ at + length f.name)
        (λ _. omega (arith, place-within Reading c f))
        (λ _. omega arith)

    go : (b : Bool) → eqb (fault_of Reading c f) 0 ≡ b
        → Bounded (at + length f.name) (examined_of c (cond b (kept (keep_of c f)) (faulty (from at (judged_by Reading c f)))) clean)
    go true t = (h, kept_small c f (fault-passed Reading c f (eqb-true _ _ t)), omega arith)
    go false t = (omega arith, omega arith, place)

-- what `examine` answers
abbrev Answer : Carrier → List ℕ → Result Examined Flaw → Type 0
Answer c b r =
    (verdict_in r ≡ examined_of c (outcome_of c b) (verdict_in r).clean)
    × MatchResult r (λ e. (e.priority < 65536) × (e.size ≤ limit.record_size) × (e.clean ≡ true → Clean c b)) (λ w. w.place ≤ length b)

module _ (c : Carrier) (b : List ℕ) where
  pub answer-bad : (r : Result Examined Flaw) (k : Fault) → bad (fault.number_of k) ≡ parse c b → IsErrAnd r (λ w. w ≡ record { fault = k; place = 0 })
      → Answer c b r
  answer-bad (Ok _) k e h = elim h [ ]
  answer-bad (Err w) k e h = rw (h, outcome-bad c b (fault.number_of k) (sym e)) (refl, omega arith)

  module _ (f : Fields) (e : fields f ≡ parse c b) (i : InRange c b f) where
    -- where the name stands
    abbrev at : ℕ
    at = name_at c (length f.addresses)

    pub answer-fields : (r : Result Examined Flaw) → verdict_in r ≡ examined_of c (yield_of c at f) (verdict_in r).clean
        → IfOk r (λ v. v.clean ≡ true → staying (address_width c) f.addresses ≡ f.addresses) → Answer c b r
    answer-fields r s all =
        let is : verdict_in r ≡ examined_of c (outcome_of c b) (verdict_in r).clean =
        s ∙ ap (λ (o : Outcome). examined_of c o (verdict_in r).clean) (sym (outcome-fields c b f (sym e))) in
        let bounds : Bounded (at + length f.name) (verdict_in r) =
        subst⁻¹ (Bounded (at + length f.name)) s (yield-bounds c at f (verdict_in r).clean i.priority) in
        (is, go r bounds all)
      where
        go : (r : Result Examined Flaw) → Bounded (at + length f.name) (verdict_in r)
            → IfOk r (λ v. v.clean ≡ true → staying (address_width c) f.addresses ≡ f.addresses)
            → MatchResult r (λ e. (e.priority < 65536) × (e.size ≤ limit.record_size) × (e.clean ≡ true → Clean c b)) (λ w. w.place ≤ length b)
        go (Ok v) h all = (h.0, h.1, λ t. clean-fields c b f e (all t))
        go (Err w) h all = omega (arith, h.2, i.named)

-- ---- what is written

module _ (c : Carrier) (b : List ℕ) (k : Kept (outcome_of c b)) where
  pub kept-not-bad : (j : ℕ) → bad j ≡ parse c b → ⊥
  kept-not-bad j e = rw (outcome-bad c b j (sym e)) at k

  module _ (f : Fields) (e : fields f ≡ parse c b) where
    kept-fault : fault_of Reading c f ≡ 0
    kept-fault = go (eqb (fault_of Reading c f) 0) refl (rw (outcome-fields c b f (sym e)) at k)
      where
        at : ℕ
        at = name_at c (length f.addresses)

        go : (b : Bool) → eqb (fault_of Reading c f) 0 ≡ b → Kept (cond b (kept (keep_of c f)) (faulty (from at (judged_by Reading c f))))
            → fault_of Reading c f ≡ 0
        go true t h = eqb-true _ _ t
        go false t h = absurd h

    kept-octets : octets_in c (outcome_of c b) ≡ record_of c (keep_of c f)
    kept-octets = rw (outcome-fields c b f (sym e), yield-kept c (name_at c (length f.addresses)) f kept-fault)

    kept-passed : Passed Reading c f
    kept-passed = fault-passed Reading c f kept-fault

    -- given as the carrier has them
    module _ (z : InRange c b f) (g : Given) (et : g.text ≡ as_text c) (ew : g.width ≡ address_width c) where
      given-octets : record_as g f ≡ octets_in c (outcome_of c b)
      given-octets = given-record c g f et ew ∙ sym kept-octets

      given-tail : (g.clean ≡ true → Clean c b) → f.full ≡ true → GivenTail g f
      given-tail all u =
          let y = kept-passed.tail u in
          record {
            few = rw ew (kept-count-small (address_width c) f.addresses y.few);
            short = y.short;
            clean = λ t. rw ew (all t f (sym e));
          }

      -- what `put_fields` asks
      pub given-asks : (g.clean ≡ true → Clean c b) → (at : ℕ) (l : List ℕ) → at + length (octets_in c (outcome_of c b)) ≤ length l
          → Puttable g f × (at + length (record_as g f) ≤ length l)
      given-asks all at l room = (
        record {
          priority = z.priority;
          lifetime = z.lifetime;
          name = rw et (name-small c f.name kept-passed.named);
          width = rw ew (carrier-width c);
          tail = given-tail all;
        },
        rw given-octets room,
      )

      pub given-writes : {at r : ℕ} {l l' : List ℕ} → Wrote at (record_as g f) l r l' → Wrote at (octets_in c (outcome_of c b)) l r l'
      given-writes v = rw given-octets at v
