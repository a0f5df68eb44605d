-- Vetting a sheet (RULES T5: 2, 40, 41, 42, 4, 43, then 21 to 28 record by record, then 44, then 5): the one place where a sheet's records are
-- tested, up to 28; of 22 the place in the sheet (RULES T8); and what else the call returns of a sheet that passes, for 44 and 5. Assumes nothing:
-- these are definitions.
use Rattle.std.specs.Prelude.{Bool, false, cond, ◌||◌, List, [], ◌∷◌, ℕ, ◌+◌, ltb, eqb, length, Result, Ok, Err}
use Rattle.numbers.specs.Limit as limit
use Rattle.carriers.specs.declared.Carrier.{Carrier}
use Rattle.carriers.specs.Carriers.{in_eights}
use Rattle.blocks.specs.Block.{Fields, option_size}
use Rattle.judge.specs.declared.Side.TheVariants.{Writing}
use Rattle.judge.specs.Place.{Judged}
use Rattle.judge.specs.Place.{judged, from}
use Rattle.judge.specs.Judge.{judged_by, fault_of}
use Rattle.records.specs.Records.{head_size, record_of}
use Rattle.sheets.specs.Sheets.{front_size}
use Rattle.layouts.specs.Layouts.{stream_of}
use Rattle.taking.specs.Taking.{Taken, take_of}
use Rattle.taking.specs.Taking as taking
use Rattle.numbers.specs.Fault as fault
use Rattle.numbers.specs.Refusal as refusal
use Rattle.vetting.specs.declared.Vetted as returned
use Rattle.vetting.specs.declared.Unfit.{Unfit}
use Rattle.vetting.specs.declared.Unfit.TheVariants as unfit

-- ---- the test

-- a refusal's number and its place, which is 0 but for 22; or a carrier and its records
pub data Vetted : Type 0 where
  refuse : (number place : ℕ) → Vetted
  sheet : Carrier → List Fields → Vetted

-- the first fault, 21 to 28, of the first record that has one, with its place in the sheet, or 0 and 0; the records stand from index `at` of the sheet
-- on, and a record's name after its head (RULES S2, T8)
unfoldable pub first_fault : Carrier → ℕ → List Fields → Judged
first_fault c at [] = judged 0 0
first_fault c at (r ∷ rs) =
    cond (eqb (fault_of Writing c r) 0) (first_fault c (at + length (record_of c r)) rs)
    (from (at + head_size) (judged_by Writing c r))

-- 21 to 28, by the first of them
abbrev pub by_first : Carrier → List Fields → Judged → Vetted
by_first c rs j = cond (eqb j.fault 0) (sheet c rs) (refuse j.fault j.place)

abbrev pub vet_records : Carrier → List Fields → Vetted
vet_records c rs = by_first c rs (first_fault c front_size rs)

-- 2, 40, 41, 42, 4, 43
abbrev pub vet_taken : Taken → Vetted
vet_taken (taking.refuse k) = refuse k 0
vet_taken (taking.sheet c rs) = vet_records c rs

unfoldable pub vet_of : List ℕ → Vetted
vet_of s = vet_taken (take_of s)

-- ---- what is measured with it

-- 44: a carrier 3 record above 2,040 octets when rounded; by the octets of an option, and of a record
abbrev pub large_by : Carrier → ℕ → Bool
large_by c n = cond (in_eights c) (ltb limit.option n) false

abbrev pub large : Carrier → Fields → Bool
large c r = large_by c (option_size r)

unfoldable pub any_large : Carrier → List Fields → Bool
any_large c [] = false
any_large c (r ∷ rs) = large c r || any_large c rs

-- what the call says: the refusal's number and place; or the carrier, how many records there are, whether one is large, and how many octets they take
-- one after another
pub data Told : Type 0 where
  Refused : (number place : ℕ) → Told
  Sheet : (carrier : Carrier) (count : ℕ) (large : Bool) (size : ℕ) → Told

abbrev pub told : Vetted → Told
told (refuse k p) = Refused k p
told (sheet c rs) = Sheet c (length rs) (any_large c rs) (length (stream_of c rs))

-- the same of the code's answer: no refusal has the number of a fault, and no two of either have one
abbrev pub number_of : Unfit → ℕ
number_of (unfit.Refused r) = refusal.number_of r
number_of (unfit.Faulty w) = fault.number_of w.fault

abbrev pub place_of : Unfit → ℕ
place_of (unfit.Refused r) = 0
place_of (unfit.Faulty w) = w.place

abbrev pub told_in : Result returned.Vetted Unfit → Told
told_in (Ok v) = Sheet v.carrier v.count v.large v.size
told_in (Err u) = Refused (number_of u) (place_of u)
