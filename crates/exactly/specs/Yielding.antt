-- A body, and the joined data of carrier 1, as the layout of fields that are allowed when read. Assumes nothing: these are definitions.
use Rattle.std.specs.Prelude.{◌≡◌, List, map, ℕ, ◌≤◌, ◌<◌, length}
use Rattle.octets.specs.Lists.{All}
use Rattle.carriers.specs.declared.Carrier.{Carrier}
use Rattle.carriers.specs.declared.Carrier.TheVariants.{Dhcp4}
use Rattle.blocks.specs.Block.{Fields, layout, Fits}
use Rattle.judge.specs.declared.Side.TheVariants.{Reading}
use Rattle.judge.specs.Allowed.{Allowed}
use Rattle.records.specs.Records.{keep_of}
use Rattle.layouts.specs.Layouts.{joined_of}

-- a body that is the layout of allowed fields, and the record that is kept of it; in carrier 3 `layout` has the one number of zeros that
-- brings the option to a multiple of 8, as every option has that is framed (`Possible` of blocks)
pub record Yielding (c : Carrier) (body : List ℕ) (r : Fields) : Type 0 where
  pub fields : Fields
  pub laid : body ≡ layout c fields
  pub fits : Fits c fields
  pub allowed : Allowed Reading c fields
  pub kept : r ≡ keep_of c fields

-- the joined data of carrier 1: one instance or more, each a 16-bit length and the layout of allowed fields
pub record YieldingAll (joined : List ℕ) (rs : List Fields) : Type 0 where
  pub fields : List Fields
  pub some : 1 ≤ length fields
  pub laid : joined ≡ joined_of fields
  pub fits : All (λ (f : Fields). Fits Dhcp4 f × (length (layout Dhcp4 f) < 65536)) fields
  pub allowed : All (Allowed Reading Dhcp4) fields
  pub kept : rs ≡ map (keep_of Dhcp4) fields
