-- Why a name of a sheet is bad at a place of the sheet (RULES R22, T8). Assumes nothing: these are definitions.
use Rattle.std.specs.Prelude.{◌≡◌, false, cond, List, [], ◌∷◌, ℕ, ◌+◌, ◌-◌, leb, length, Option}
use Rattle.carriers.specs.declared.Carrier.{Carrier}
use Rattle.blocks.specs.Block.{Fields}
use Rattle.records.specs.Records.{head_size, record_of}
use Rattle.sheets.specs.Sheets.{front_size}
use Rattle.taking.specs.Taking.{Taken, refuse, sheet, take_of}
use Rattle.taking.specs.Standing.{Standing}
use Rattle.vetting.specs.Weighing.{records_of}
use Rattle.reasons.specs.declared.Reason.{Reason}
use Rattle.reasons.specs.Reason as reason
use Rattle.reasons.specs.Names.{name_reason}

-- of records that stand from index `at` of the sheet on: the reason of the first whose name ends at the place or after it, and 0 where there is none
unfoldable pub reason_from : Carrier → ℕ → List Fields → ℕ → ℕ
reason_from c at [] place = 0
reason_from c at (r ∷ rs) place =
    cond (leb place (at + head_size + length r.name)) (name_reason false r.name (place - (at + head_size)))
    (reason_from c (at + length (record_of c r)) rs place)

-- of a sheet, and 0 where the octets are none
abbrev pub reason_in : Taken → ℕ → ℕ
reason_in (refuse k) place = 0
reason_in (sheet c rs) place = reason_from c front_size rs place

unfoldable pub sheet_reason : List ℕ → ℕ → ℕ
sheet_reason s place = reason_in (take_of s) place

-- the number of the code's reason, and 0 for none
abbrev pub number_in : Option Reason → ℕ
number_in r = reason.number_in r

-- as a walk over the records goes on: those that stand from index `at` on decide
pub record Seeking (c : Carrier) (s : List ℕ) (place at : ℕ) : Type 0 where
  pub rest : List Fields
  pub standing : Standing c s at rest
  pub same : reason_from c front_size (records_of s) place ≡ reason_from c at rest place
