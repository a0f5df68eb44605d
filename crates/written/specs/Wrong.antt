-- Where a sheet says that a name is wrong (RULES T8), said of the sheet's octets. Assumes nothing: these are definitions.
use Rattle.std.specs.Prelude.{◌≡◌, List, ◌∷◌, ◌++◌, ℕ, ◌+◌, ◌-◌, ◌≤◌, length}
use Rattle.octets.specs.Lists.{All, Stands}
use Rattle.carriers.specs.declared.Carrier.{Carrier}
use Rattle.names.specs.Names.{IsName, FirstBad}
use Rattle.blocks.specs.Block.{Fields}
use Rattle.judge.specs.declared.Side.TheVariants.{Writing}
use Rattle.judge.specs.Allowed.{Allowed}
use Rattle.records.specs.Records.{head_size}
use Rattle.sheets.specs.Sheets.{front_size, records_of}
use Rattle.taking.specs.Sheet.{IsSheet}

-- the sheet s has a record whose name is wrong, and those before it are allowed: its name stands in s from `start` on, after the sheet's head, the records
-- before it and its own head (RULES S2), and p is the place in s of the name's first bad octet (RULES N5)
pub record WrongName (s : List ℕ) (p : ℕ) : Type 0 where
  pub carrier : Carrier
  pub before : List Fields
  pub wrong : Fields
  pub after : List Fields
  pub is : IsSheet s carrier (before ++ (wrong ∷ after))
  pub allowed : All (Allowed Writing carrier) before
  pub service : wrong.priority ≡ 0 → ⊥
  pub start : ℕ
  pub starts : start ≡ front_size + length (records_of carrier before) + head_size
  pub stands : Stands wrong.name start s
  pub from : start ≤ p
  pub bad : FirstBad IsName wrong.name (p - start)
