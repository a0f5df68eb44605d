-- Of fault 22 the place that is told is the first bad one of the name, and the one that reading gives back. Assumes nothing.
use Rattle.std.specs.Prelude.{◌≡◌, refl, Bool, true, false, cond, ◌⊎◌, List, [], ◌∷◌, ℕ, zero, suc, ◌+◌, ◌-◌, ltb, eqb, length, take, drop}
use Rattle.std.proofs.Common.{sym, ap, ◌∙◌, inl, inr, arith, eq-eqb, ne_eqb}
use Rattle.octets.specs.Numbers.{at16}
use Rattle.numbers.specs.Fault as fault
use Rattle.carriers.specs.declared.Carrier.{Carrier}
use Rattle.carriers.specs.declared.Carrier.TheVariants.{Dhcp4, Router}
use Rattle.names.specs.Names.{FirstBad}
use Rattle.blocks.specs.Block.{Fields, name_at}
use Rattle.blocks.specs.Parse.{Parsed, bad, fields, parse}
use Rattle.blocks.specs.Faults.{parse-fault}
use Rattle.judge.specs.declared.Side.TheVariants.{Reading}
use Rattle.judge.specs.Place.{Judged}
use Rattle.judge.specs.Place.{judged, from}
use Rattle.judge.specs.Judge.{judged_by}
use Rattle.judge.specs.Allowed.{NameAllowed}
use Rattle.judge.proofs.PlaceLaws.{bad-exactly, judged-bad}
use Rattle.judge.proofs.PlaceLaws as judge
use Rattle.records.specs.Records.{Outcome, faulty, kept, further}
use Rattle.records.specs.Yielded.{on_parsed, outcome_of}
use Rattle.records.specs.RecordsLaws.{yield-faulty, outcome-bad, outcome-fields, fault-some}
use Rattle.reading.specs.Reading.{ahead, instances_from, joined_yield}
use Rattle.reading.specs.Result.{Yield, discarded, yields}
use Rattle.reasons.specs.Params.{param_for}
use Rattle.findings.specs.Troubles.{Trouble}
use Rattle.findings.specs.Troubles.{plain, laid_place, judged_trouble, fields_trouble, trouble_of, or_else, instances_trouble, joined_trouble}
use Rattle.findings.specs.PlacesLaws.{place-name}
use Rattle.findings.specs.Told.{fault_in}
use Rattle.findings.proofs.FaultLaws.{trouble-fault}

-- ---- a body

-- the trouble with a body that is split into fields
fields-trouble : (c : Carrier) (b : List ℕ) (f : Fields) → parse c b ≡ fields f → trouble_of c b ≡ fields_trouble c f
unfolding trouble_of
fields-trouble c b f e = ap (λ (x : Parsed). on_parsed x (λ k. plain k (laid_place k b)) (fields_trouble c)) e

-- with 22 its place is the judge's, counted from where the name stands
fields-place : (c : Carrier) (f : Fields) → (fields_trouble c f).fault ≡ fault.name
    → (fields_trouble c f).at ≡ name_at c (length f.addresses) + (judged_by Reading c f).place
unfolding judged_trouble
fields-place c f q =
    let j : Judged = judged_by Reading c f in
    sym (place-name c j.fault (length f.name) (length f.addresses) j.place (param_for j.fault f.parameters).at (omega arith) refl q)

-- the trouble's number is the judge's
fields-fault : (c : Carrier) (f : Fields) → (fields_trouble c f).fault ≡ (judged_by Reading c f).fault
unfolding judged_trouble
fields-fault c f = refl

pub name-place : (c : Carrier) (b : List ℕ) (f : Fields) → parse c b ≡ fields f → (trouble_of c b).fault ≡ fault.name
    → (place : ℕ) × ((trouble_of c b).at ≡ name_at c (length f.addresses) + place) × FirstBad (NameAllowed Reading c) f.name place
name-place c b f e k =
    let j : Judged = judged_by Reading c f in
    let is = fields-trouble c b f e in
    let q : (fields_trouble c f).fault ≡ fault.name = sym (ap (λ t. t.fault) is) ∙ k in (
      j.place,
      ap (λ t. t.at) is ∙ fields-place c f q,
      (bad-exactly Reading c f.name j.place).0 (judged-bad Reading c f (sym (fields-fault c f) ∙ q)),
    )

-- the place that is told is the one that reading gives back
pub trouble-place : (c : Carrier) (b : List ℕ) (j : Judged) → outcome_of c b ≡ faulty j → j.fault ≡ fault.name → (trouble_of c b).at ≡ j.place
trouble-place c b j e n = go (parse c b) refl
  where
    told : (trouble_of c b).fault ≡ fault.name
    told = trouble-fault c b ∙ ap fault_in e ∙ n

    no_name : (k : ℕ) → k ≡ fault.name → (k ≡ fault.field) ⊎ ((c ≡ Router) × (k ≡ fault.padding)) → ⊥
    no_name k h (inl i) = omega arith
    no_name k h (inr i) = omega (arith, i.1)

    go : (p : Parsed) → parse c b ≡ p → (trouble_of c b).at ≡ j.place
    go (bad k) t =
        let o = outcome-bad c b k t in
        let q : judged k 0 ≡ j = cc in
        absurd (no_name k (ap (λ (j : Judged). j.fault) q ∙ n) (parse-fault c b k t))
    go (fields f) t =
        let at : ℕ = name_at c (length f.addresses) in
        let i : Judged = judged_by Reading c f in
        let is = fields-trouble c b f t in
        let k : (fields_trouble c f).fault ≡ fault.name = sym (ap (λ t. t.fault) is) ∙ told in
        let m : i.fault ≡ fault.name = sym (fields-fault c f) ∙ k in
        let y : faulty (from at i) ≡ faulty j = sym (yield-faulty c at f (λ z. omega arith)) ∙ sym (outcome-fields c b f t) ∙ e in
        let q : from at i ≡ j = cc in
        ap (λ t. t.at) is ∙ fields-place c f k ∙ judge.place-name at i.fault i.place m ∙ ap (λ (j : Judged). j.place) q

-- ---- joined data

-- the octets of an instance are told and given back as the body's, so many octets further on
ahead-place : (n : ℕ) (t next : Trouble) (o : Outcome) (y : Yield) (j : Judged) → t.fault ≡ fault_in o
    → ((i : Judged) → o ≡ faulty i → i.fault ≡ fault.name → t.at ≡ i.place)
    → (t.fault ≡ 0 → y ≡ discarded j → next.at ≡ j.place)
    → ((i : Judged) → o ≡ faulty i → i.fault ≡ 0 → ⊥)
    → ahead (further n o) y ≡ discarded j → j.fault ≡ fault.name → (or_else n t next).at ≡ j.place
unfolding or_else
ahead-place n t next (faulty i) y j e here later some a m =
    let q : from n i ≡ j = cc in
    let k : i.fault ≡ fault.name = ap (λ (j : Judged). j.fault) q ∙ m in
    let other : t.fault ≡ 0 → ⊥ = λ z. some i refl (sym e ∙ z) in
    simp (ne_eqb _ _ other) (ap (λ (p : ℕ). n + p) (here i refl k) ∙ judge.place-name n i.fault i.place k ∙ ap (λ (j : Judged). j.place) q)
ahead-place n t next (kept r) (discarded i) j e here later some a m = simp (eq-eqb _ _ e) (later e a)
ahead-place n t next (kept r) (yields rs) j e here later some a m = let o : ◌≡◌ {A = ℕ} 0 1 = cc in absurd (omega arith)

instances-place : (k at : ℕ) (l : List ℕ) (j : Judged) → instances_from k at l ≡ discarded j → j.fault ≡ fault.name → (instances_trouble k at l).at ≡ j.place
unfolding instances_trouble instances_from
instances-place k at [] j e m = let o : ◌≡◌ {A = ℕ} 0 1 = cc in absurd (omega arith)
instances-place zero at (x ∷ xs) j e m = go (ltb (length l) 2) (ltb (length l - 2) n) (instances-place (1 + n) (at + 1) xs j) e
  where
    l : List ℕ
    l = x ∷ xs

    n : ℕ
    n = at16 l 0

    body : List ℕ
    body = take n (drop 2 l)

    later : Yield
    later = instances_from (1 + n) (at + 1) xs

    short : discarded (judged fault.field 0) ≡ discarded j → ⊥
    short e = let q : judged fault.field 0 ≡ j = cc in omega (arith, ap (λ (j : Judged). j.fault) q)

    go : (no past : Bool) → (later ≡ discarded j → j.fault ≡ fault.name → (instances_trouble (1 + n) (at + 1) xs).at ≡ j.place)
        → cond no (discarded (judged fault.field 0))
        (cond past (discarded (judged fault.field 0)) (ahead (further (at + 2) (outcome_of Dhcp4 body)) later)) ≡ discarded j
        → (cond no (plain fault.field (at + length l))
        (cond past (plain fault.field (at + length l)) (or_else (at + 2) (trouble_of Dhcp4 body) (instances_trouble (1 + n) (at + 1) xs)))).at ≡ j.place
    go true past ih e = absurd (short e)
    go false true ih e = absurd (short e)
    go false false ih e =
        ahead-place (at + 2) (trouble_of Dhcp4 body) (instances_trouble (1 + n) (at + 1) xs) (outcome_of Dhcp4 body) later j (trouble-fault Dhcp4 body)
        (trouble-place Dhcp4 body) (λ _ y. ih y m) (fault-some Dhcp4 body) e m
instances-place (suc k) at (x ∷ xs) j e m = instances-place k (at + 1) xs j e m

pub joined-place : (b : List ℕ) (j : Judged) → joined_yield b ≡ discarded j → j.fault ≡ fault.name → (joined_trouble b).at ≡ j.place
unfolding joined_trouble joined_yield
joined-place b j e m = go (eqb (length b) 0) e
  where
    go : (none : Bool) → cond none (discarded (judged fault.field 0)) (instances_from 0 0 b) ≡ discarded j
        → (cond none (plain fault.field 0) (instances_trouble 0 0 b)).at ≡ j.place
    go true e = let q : judged fault.field 0 ≡ j = cc in absurd (omega (arith, ap (λ (j : Judged). j.fault) q))
    go false e = instances-place 0 0 b j e m
