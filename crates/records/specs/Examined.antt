-- What `examine` answers, and which bodies `put_record` takes. Assumes nothing: these are definitions.
use Rattle.std.specs.Prelude.{◌≡◌, Bool, false, List, [], ℕ, length, Result, Ok, Err}
use Rattle.carriers.specs.declared.Carrier.{Carrier}
use Rattle.carriers.specs.Carriers.{address_width}
use Rattle.blocks.specs.Block.{Fields}
use Rattle.blocks.specs.Parse.{fields, parse}
use Rattle.judge.specs.declared.Flaw.{Flaw}
use Rattle.judge.specs.Place.{Judged, flawed}
use Rattle.records.specs.declared.Examined.{Examined}
use Rattle.records.specs.Records.{Outcome, faulty, kept, record_of, staying}

-- what is told of a body: its fault and place; or 0 with the record's priority and its octets in a sheet; and a flag beside them
pub record Verdict : Type 0 where
  pub fault : ℕ
  pub place : ℕ
  pub priority : ℕ
  pub size : ℕ
  pub clean : Bool

-- a fault and its place; or 0 with the record's priority and its octets in a sheet; and a flag beside them
abbrev pub examined_of : Carrier → Outcome → Bool → Verdict
examined_of c (faulty j) clean = record { fault = j.fault; place = j.place; priority = 0; size = 0; clean = clean }
examined_of c (kept r) clean = record { fault = 0; place = 0; priority = r.priority; size = length (record_of c r); clean = clean }

-- an answer of `examine` as a verdict: of a body with a fault the numbers are 0, and nothing is said of its addresses
abbrev pub discarded : Judged → Verdict
discarded j = record { fault = j.fault; place = j.place; priority = 0; size = 0; clean = false }

abbrev pub verdict_in : Result Examined Flaw → Verdict
verdict_in (Ok e) = record { fault = 0; place = 0; priority = e.priority; size = e.size; clean = e.clean }
verdict_in (Err w) = discarded (flawed w)

-- every address of the body stays: none is dropped when it is read
abbrev pub Clean : Carrier → List ℕ → Type 0
Clean c body = (f : Fields) → parse c body ≡ fields f → staying (address_width c) f.addresses ≡ f.addresses

-- the body yields a record
abbrev pub Kept : Outcome → Type 0
Kept (faulty j) = ⊥
Kept (kept r) = Unit {0}

-- the octets of the record that a body yields, and none of a body with a fault
abbrev pub octets_in : Carrier → Outcome → List ℕ
octets_in c (faulty j) = []
octets_in c (kept r) = record_of c r
