-- What one body yields, computed (RULES T2): 20 and 29 by `parse`, then 21 to 28, or its record; and of 22 the place in the body (RULES W11).
-- Assumes nothing: these are definitions.
use Rattle.std.specs.Prelude.{cond, List, ℕ, eqb, length}
use Rattle.carriers.specs.declared.Carrier.{Carrier}
use Rattle.blocks.specs.Block.{Fields, name_at}
use Rattle.blocks.specs.Parse.{Parsed, bad, fields, parse}
use Rattle.judge.specs.declared.Side.TheVariants.{Reading}
use Rattle.judge.specs.Place.{judged, from}
use Rattle.judge.specs.Judge.{judged_by, fault_of}
use Rattle.records.specs.Records.{keep_of, Outcome, faulty, kept}

abbrev pub on_parsed : {A : Type 0} → Parsed → (ℕ → A) → (Fields → A) → A
on_parsed (bad k) short next = short k
on_parsed (fields f) short next = next f

-- 21 to 28 of fields whose name stands at offset `at` of the body, or their record
abbrev pub yield_of : Carrier → ℕ → Fields → Outcome
yield_of c at f = cond (eqb (fault_of Reading c f) 0) (kept (keep_of c f)) (faulty (from at (judged_by Reading c f)))

-- 20 and 29 by `parse`, then 21 to 28
unfoldable pub outcome_of : Carrier → List ℕ → Outcome
outcome_of c body = on_parsed (parse c body) (λ k. faulty (judged k 0)) (λ f. yield_of c (name_at c (length f.addresses)) f)
