-- Going through the records of a sheet, one by one. Assumes nothing: these are definitions.
use Rattle.std.specs.Prelude.{◌≡◌, List, ℕ, Option, Some, None}
use Rattle.carriers.specs.declared.Carrier.{Carrier}
use Rattle.taking.specs.declared.Record.{Record}
use Rattle.taking.specs.declared.Records.{Records}
use Rattle.taking.specs.Spot.{spot_of}
use Rattle.taking.specs.Shown.{Shows}

-- the records of carrier c in s, from index `at` on
pub record Begins (c : Carrier) (s : List ℕ) (at : ℕ) (i : Records) : Type 0 where
  pub carrier : i.carrier ≡ c
  pub sheet : i.sheet.now ≡ s
  pub begins : i.at ≡ at

-- after a record, the index after it
abbrev pub after : ℕ → Option Record → ℕ
after at (Some r) = r.next
after at None = at

-- a turn: the record that stands there, and then those after it
pub record Turns (i : Records) (o : Option Record) (j : Records) : Type 0 where
  pub shows : Shows i.sheet.now i.at (spot_of i.carrier i.sheet.now i.at) o
  pub rest : Begins i.carrier i.sheet.now (after i.at o) j
