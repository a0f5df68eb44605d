-- What holds as a reading goes on: over the blocks of an area, over the instances of joined data, and over the slots of a sheet that
-- is written. Assumes nothing: these are definitions.
use Rattle.std.specs.Prelude.{◌≡◌, List, ◌++◌, map, ℕ, ◌+◌, ◌≤◌, length, take, drop}
use Rattle.octets.specs.Lists.{flat}
use Rattle.octets.specs.Over.{Wrote}
use Rattle.carriers.specs.declared.Carrier.{Carrier}
use Rattle.carriers.specs.declared.Carrier.TheVariants.{Dhcp4}
use Rattle.frames.specs.Walk.{Walked}
use Rattle.blocks.specs.Block.{Fields}
use Rattle.order.specs.declared.slots.Slot.{Slot}
use Rattle.records.specs.Yielded.{outcome_of}
use Rattle.records.specs.Examined.{octets_in}
use Rattle.reading.specs.Reading.{instances_from, joined_yield, alone}
use Rattle.reading.specs.Result.{Yield, discarded, yields}
use Rattle.reading.specs.declared.Held.{Held}
use Rattle.reading.specs.Tally.{body_at, Holds, Tally, Shows}

-- ---- the blocks of an area

-- the bodies met before an index, and what is tallied of them
pub record Tallying (c : Carrier) (area : List ℕ) (at : ℕ) (t : Tally) : Type 0 where
  pub bodies : List (List ℕ)
  pub walked : Walked c area at bodies
  pub shows : Shows c area (map (alone c) bodies) t
  pub behind : length bodies ≤ at

-- ---- the instances of joined data

-- records in front of what later instances yield
abbrev pub before : List Fields → Yield → Yield
before rs (discarded j) = discarded j
before rs (yields qs) = yields (rs ++ qs)

-- the records of the instances before an index
pub record Passed (joined : List ℕ) (at : ℕ) (h : Held) : Type 0 where
  pub records : List Fields
  pub within : at ≤ length joined
  pub yields_on : joined_yield joined ≡ before records (instances_from 0 at (drop at joined))
  pub holds : Holds Dhcp4 joined records h

-- ---- the slots of a sheet

-- the octets of a list's elements, one after another
module _ {A : Type 0} (f : A → List ℕ) where
  abbrev pub laid : List A → List ℕ
  laid l = flat (map f l)

-- the octets of a slot's record
abbrev pub octets_at : Carrier → List ℕ → Slot → List ℕ
octets_at c source s = octets_in c (outcome_of c (body_at source s))

-- the records of the first i slots of l are laid over `out` from an index on, and there is room for the others
pub record Written (c : Carrier) (source : List ℕ) (l : List Slot) (at : ℕ) (out : List ℕ) (i o : ℕ) (out' : List ℕ) : Type 0 where
  pub within : i ≤ length l
  pub room : at + length (laid (octets_at c source) l) ≤ length out
  pub wrote : Wrote at (laid (octets_at c source) (take i l)) out o out'
