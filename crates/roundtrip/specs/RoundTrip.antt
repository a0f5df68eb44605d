-- What reading gives back of the octets that writing gave (RULES D2: "with room reading those octets gives the sheet back").
-- Assumes nothing: these are definitions.
use Rattle.std.specs.Prelude.{◌≡◌, cond, List, [], ◌∷◌, ℕ, length, take}
use Rattle.carriers.specs.declared.Carrier.{Carrier}
use Rattle.carriers.specs.Carriers.{is_joined}
use Rattle.blocks.specs.Block.{Fields}
use Rattle.reading.specs.declared.Reading.{Reading}
use Rattle.reading.specs.Result.{Done, faultless, done, told}
use Rattle.written.specs.Accepted.{Accepted}

-- the blocks of an accepted sheet's octets: in carrier 1 one, or none for no records; else one for each record (RULES W4 to W7)
abbrev pub block_in : List Fields → ℕ
block_in [] = 0
block_in (r ∷ rs) = 1

abbrev pub blocks_in : Carrier → List Fields → ℕ
blocks_in c rs = cond (is_joined c) (block_in rs) (length rs)

-- what reading gives back: the sheet itself, its blocks, none discarded (RULES D2)
abbrev pub returned : Carrier → List Fields → List ℕ → Done
returned c rs s = faultless s (blocks_in c rs)

-- what the call leaves that read a sheet's octets: it is done, every block was kept, and the sheet stands at the front of the buffer (RULES D2)
pub record Restored (s : List ℕ) (r : Reading) (sheet : List ℕ) : Type 0 where
  pub carrier : Carrier
  pub records : List Fields
  pub accepted : Accepted s carrier records
  pub numbers : r ≡ told (done (returned carrier records s))
  pub front : take r.length sheet ≡ s
