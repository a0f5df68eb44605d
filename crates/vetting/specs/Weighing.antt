-- The octets that a sheet's records take, and what the pass over them finds: the first fault, 21 to 28, whether a record is large (44), and how
-- many octets they are one after another. Assumes nothing: these are definitions.
use Rattle.std.specs.Prelude.{◌≡◌, Bool, false, cond, ◌||◌, List, [], ℕ, ◌+◌, ◌*◌, ◌≤◌, length, Result, Ok, Err}
use Rattle.octets.specs.Lists.{All}
use Rattle.numbers.specs.Limit as limit
use Rattle.carriers.specs.declared.Carrier.{Carrier}
use Rattle.carriers.specs.Carriers.{is_joined}
use Rattle.blocks.specs.Block.{Fields}
use Rattle.judge.specs.declared.Side.TheVariants.{Writing}
use Rattle.judge.specs.declared.Flaw.{Flaw}
use Rattle.judge.specs.Place.{Judged, judged, from, flawed}
use Rattle.judge.specs.Judge.{judged_by}
use Rattle.layouts.specs.Layouts.{own_option, instance_of, stream_of}
use Rattle.layouts.specs.Writable.{option_octets, instance_octets, most_addresses, most_body}
use Rattle.taking.specs.Taking.{Taken, refuse, sheet, take_of}
use Rattle.taking.specs.Sheet.{FitsRecord}
use Rattle.taking.specs.Standing.{Standing}
use Rattle.sheets.specs.Sheets.{front_size}
use Rattle.vetting.specs.declared.Weighed as found
use Rattle.vetting.specs.Vetting.{first_fault, large, any_large}

-- ---- the records of a sheet

abbrev pub records_in : Taken → List Fields
records_in (refuse k) = []
records_in (sheet c rs) = rs

-- those of the sheet s
abbrev pub records_of : List ℕ → List Fields
records_of s = records_in (take_of s)

-- s is taken as a sheet of carrier c
abbrev pub TakenAs : Carrier → List ℕ → Type 0
TakenAs c s = take_of s ≡ sheet c (records_of s)

-- ---- one record

-- a record's share of the octets: in carrier 1 its instance, else its option or attribute
abbrev pub share_of : Carrier → Fields → List ℕ
share_of c r = cond (is_joined c) (instance_of r) (own_option c r)

-- how many octets it has, by the lengths of a name in wire form, of addresses and of parameters
abbrev pub share_octets : Carrier → Bool → ℕ → ℕ → ℕ → ℕ
share_octets c full n a p = cond (is_joined c) (instance_octets full n a p) (option_octets c full n a p)

abbrev pub weight_of : Carrier → Fields → ℕ
weight_of c r = share_octets c r.full (length r.name) (length r.addresses) (length r.parameters)

-- the lengths of a name, of addresses and of parameters without a fault
pub record Light (n a p : ℕ) : Type 0 where
  pub some : 2 ≤ n
  pub name : n ≤ 255
  pub addresses : a ≤ most_addresses
  pub parameters : p ≤ limit.parameters

-- ---- what the pass finds

-- a record's share has no more octets than these, whatever its carrier: a header of 4, and the body
abbrev pub most : ℕ
most = 4 + most_body

-- the first fault and its place; or 0 and 0, whether a record is large, and the octets of the records
pub record Weighed : Type 0 where
  pub fault : ℕ
  pub place : ℕ
  pub large : Bool
  pub size : ℕ

-- with a fault nothing but its place is found
abbrev pub fault_alone : Judged → Weighed
fault_alone j = record { fault = j.fault; place = j.place; large = false; size = 0 }

-- what the code finds: a flaw, or what it finds of records without one
abbrev pub weighed_in : Result found.Weighed Flaw → Weighed
weighed_in (Ok w) = record { fault = 0; place = 0; large = w.large; size = w.size }
weighed_in (Err w) = fault_alone (flawed w)

-- the fault that is found, and its place
abbrev pub found_by : Weighed → Judged
found_by w = judged w.fault w.place

-- of one record, whose name stands at an index of the sheet: its fault; or 0, whether it is large, and its octets
pub record WeighsOne (c : Carrier) (at : ℕ) (r : Fields) (w : Weighed) : Type 0 where
  pub first : found_by w ≡ from at (judged_by Writing c r)
  pub large_is : w.fault ≡ 0 → w.large ≡ large c r
  pub size_is : w.fault ≡ 0 → w.size ≡ length (share_of c r)
  pub small : w.size ≤ most

-- of all records, the first of which stands after the sheet's head
pub record Weighs (c : Carrier) (rs : List Fields) (w : Weighed) : Type 0 where
  pub first : found_by w ≡ first_fault c front_size rs
  pub large_is : w.fault ≡ 0 → w.large ≡ any_large c rs
  pub size_is : w.fault ≡ 0 → w.size ≡ length (stream_of c rs)

-- of the records rs those before an index have no fault; `large` and `size` are what is found of them
pub record Weighing (c : Carrier) (s : List ℕ) (rs : List Fields) (at : ℕ) (large : Bool) (size : ℕ) : Type 0 where
  pub rest : List Fields
  pub standing : Standing c s at rest
  pub fits : All (FitsRecord c) rest
  pub faults : first_fault c front_size rs ≡ first_fault c at rest
  pub larges : any_large c rs ≡ (large || any_large c rest)
  pub sizes : length (stream_of c rs) ≡ size + length (stream_of c rest)
  pub small : size + most * length rest ≤ most * limit.records
