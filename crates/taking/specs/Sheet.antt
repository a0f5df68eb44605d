-- What a sheet is, said of the whole list, in place of the tests 2, 40, 41, 42, 4 and 43 (RULES T5): the octets of a carrier and a list of at most
-- 16 records (RULES S1 to S5, L2). It speaks of lists of numbers; that they are octets is a premise of the laws. Assumes nothing: these are
-- definitions.
use Rattle.std.specs.Prelude.{◌≡◌, Bool, true, false, List, [], ◌∷◌, ◌++◌, ℕ, ◌/◌, ◌%◌, ◌≤◌, ◌<◌, length}
use Rattle.octets.specs.Numbers.{be}
use Rattle.octets.specs.Lists.{All}
use Rattle.numbers.specs.Limit as limit
use Rattle.carriers.specs.declared.Carrier.{Carrier}
use Rattle.carriers.specs.Carriers.{address_width, lifetime_width}
use Rattle.blocks.specs.Block.{Fields}
use Rattle.sheets.specs.Sheets.{letters, edition, sheet_of}

-- in mode 1 the addresses are whole and their count and the parameters' length have room; in mode 0 there are none (RULES S2)
abbrev pub FitsTail : ℕ → Bool → List ℕ → List ℕ → Type 0
FitsTail w true addresses parameters = (length addresses % w ≡ 0) × (length addresses / w < 256) × (length parameters < 65536)
FitsTail w false addresses parameters = (addresses ≡ []) × (parameters ≡ [])

-- a record whose fields have room in a sheet, with a lifetime only where the carrier has one (RULES S2, S4)
pub record FitsRecord (c : Carrier) (r : Fields) : Type 0 where
  pub priority : r.priority < 65536
  pub lifetime : r.lifetime < 4294967296
  pub placed : lifetime_width c ≡ 0 → r.lifetime ≡ 0
  pub name : length r.name < 256
  pub tail : FitsTail (address_width c) r.full r.addresses r.parameters

-- no priority is below the one before it, the first not below `least` (RULES S5)
abbrev pub NoneFalls : ℕ → List Fields → Type 0
NoneFalls least [] = Unit {0}
NoneFalls least (r ∷ rs) = (least ≤ r.priority) × NoneFalls r.priority rs

-- s has at most 40,960 octets and begins with RSV, the version 1, a carrier octet and a count octet of any value (RULES L1, S1)
pub record IsHead (s : List ℕ) (carrier count : ℕ) : Type 0 where
  pub rest : List ℕ
  pub is : s ≡ letters ++ (be 2 edition ++ (carrier ∷ count ∷ rest))
  pub short : length s ≤ limit.input

-- s is the sheet of carrier c and records rs, which passes 2, 40, 41, 42, 4 and 43 (RULES T5, L1, L2)
pub record IsSheet (s : List ℕ) (c : Carrier) (rs : List Fields) : Type 0 where
  pub is : s ≡ sheet_of c rs
  pub few : length rs ≤ limit.records
  pub each : All (FitsRecord c) rs
  pub order : NoneFalls 0 rs
  pub short : length s ≤ limit.input
