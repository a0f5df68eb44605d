-- The number that is told is the number by which a body is discarded. Assumes nothing.
use Rattle.std.specs.Prelude.{◌≡◌, refl, Bool, true, false, cond, List, [], ◌∷◌, ℕ, zero, suc, ◌+◌, ◌-◌, ltb, length, take, drop}
use Rattle.std.proofs.Common.{sym, ◌∙◌, eq-eqb, ne_eqb}
use Rattle.octets.specs.Cases.{by_equal}
use Rattle.octets.specs.Numbers.{at16}
use Rattle.numbers.specs.Fault as fault
use Rattle.carriers.specs.declared.Carrier.{Carrier}
use Rattle.carriers.specs.declared.Carrier.TheVariants.{Dhcp4}
use Rattle.blocks.specs.Block.{Fields, name_at}
use Rattle.blocks.specs.Parse.{Parsed, bad, fields, parse}
use Rattle.judge.specs.declared.Side.TheVariants.{Reading}
use Rattle.judge.specs.Place.{Judged}
use Rattle.judge.specs.Place.{judged}
use Rattle.judge.specs.Judge.{fault_of}
use Rattle.records.specs.Records.{Outcome, faulty, kept, further}
use Rattle.records.specs.Yielded.{on_parsed, yield_of, outcome_of}
use Rattle.records.specs.RecordsLaws.{fault-some}
use Rattle.reading.specs.Reading.{ahead, instances_from}
use Rattle.reading.specs.Result.{Yield, discarded, yields}
use Rattle.findings.specs.Troubles.{Trouble}
use Rattle.findings.specs.Troubles.{plain, laid_place, judged_trouble, fields_trouble, trouble_of, or_else, instances_trouble}
use Rattle.findings.specs.Told.{fault_in, block_fault}

-- ---- a body

fields-fault : (c : Carrier) (at : ℕ) (f : Fields) → fault_of Reading c f ≡ fault_in (yield_of c at f)
fields-fault c at f = by_equal (λ (o : Outcome). fault_of Reading c f ≡ fault_in o) (fault_of Reading c f) 0 _ _ (λ e. e) (λ _. refl)

pub trouble-fault : (c : Carrier) (b : List ℕ) → (trouble_of c b).fault ≡ fault_in (outcome_of c b)
unfolding trouble_of judged_trouble outcome_of
trouble-fault c b = go (parse c b)
  where
    go : (r : Parsed) → (on_parsed r (λ k. plain k (laid_place k b)) (fields_trouble c)).fault
        ≡ fault_in (on_parsed r (λ k. faulty (judged k 0)) (λ f. yield_of c (name_at c (length f.addresses)) f))
    go (bad k) = refl
    go (fields f) = fields-fault c (name_at c (length f.addresses)) f

-- ---- joined data

ahead-fault : (n : ℕ) (t next : Trouble) (o : Outcome) (y : Yield) → t.fault ≡ fault_in o → ((j : Judged) → o ≡ faulty j → j.fault ≡ 0 → ⊥)
    → next.fault ≡ block_fault y → (or_else n t next).fault ≡ block_fault (ahead (further n o) y)
unfolding or_else
ahead-fault n t next (faulty j) y e some h = let other : t.fault ≡ 0 → ⊥ = λ z. some j refl (sym e ∙ z) in simp (ne_eqb _ _ other) e
ahead-fault n t next (kept r) (discarded j) e some h = simp (eq-eqb _ _ e) h
ahead-fault n t next (kept r) (yields rs) e some h = simp (eq-eqb _ _ e) h

pub instances-fault : (k at : ℕ) (l : List ℕ) → (instances_trouble k at l).fault ≡ block_fault (instances_from k at l)
unfolding instances_trouble instances_from
instances-fault k at [] = refl
instances-fault zero at (x ∷ xs) = go (ltb (length l) 2) (ltb (length l - 2) n) (instances-fault (1 + n) (at + 1) xs)
  where
    l : List ℕ
    l = x ∷ xs

    n : ℕ
    n = at16 l 0

    body : List ℕ
    body = take n (drop 2 l)

    go : (short past : Bool) → (instances_trouble (1 + n) (at + 1) xs).fault ≡ block_fault (instances_from (1 + n) (at + 1) xs)
        → (cond short (plain fault.field (at + length l))
        (cond past (plain fault.field (at + length l)) (or_else (at + 2) (trouble_of Dhcp4 body) (instances_trouble (1 + n) (at + 1) xs)))).fault
        ≡ block_fault (cond short (discarded (judged fault.field 0))
        (cond past (discarded (judged fault.field 0)) (ahead (further (at + 2) (outcome_of Dhcp4 body)) (instances_from (1 + n) (at + 1) xs))))
    go true past h = refl
    go false true h = refl
    go false false h = ahead-fault (at + 2) _ _ (outcome_of Dhcp4 body) _ (trouble-fault Dhcp4 body) (fault-some Dhcp4 body) h
instances-fault (suc k) at (x ∷ xs) = instances-fault k (at + 1) xs
