-- What reading the part before a cut answers (RULES D3, D8, D9), carriers 2 to 5: `calls-cut` says it of the calls (`CutCall`). Assumes nothing: these
-- are definitions.
use Rattle.std.specs.Prelude.{◌≡◌, List, ℕ, ◌≤◌, ◌<◌, length, take}
use Rattle.numbers.specs.Refusal as refusal
use Rattle.carriers.specs.declared.Carrier.{Carrier}
use Rattle.carriers.specs.Carriers.{number_of}
use Rattle.blocks.specs.Block.{Fields}
use Rattle.sheets.specs.Sheets.{sheet_of}
use Rattle.reading.specs.Reading.{read_of}
use Rattle.reading.specs.Result.{faultless, Answer, refuse, done}
use Rattle.cuts.specs.Cuts.{EndOf}

-- the octets defined for a sheet are cut after n of them, and the part before the cut is read under the sheet's carrier number (RULES D8)
abbrev pub read_cut : Carrier → List ℕ → ℕ → ℕ → Answer
read_cut c octets n room = read_of (number_of c) (take n octets) room

-- the reading is done with the first k records, or their sheet has no room (RULES D8, D9)
pub record FirstRead (c : Carrier) (rs : List Fields) (octets : List ℕ) (k n room : ℕ) : Type 0 where
  pub enough : length (sheet_of c (take k rs)) ≤ room → read_cut c octets n room ≡ done (faultless (sheet_of c (take k rs)) k)
  pub little : room < length (sheet_of c (take k rs)) → read_cut c octets n room ≡ refuse refusal.room

-- the octets of the records rs are cut after k whole options, or elsewhere, and there the room does not matter (carriers 2 to 5, n from 0 to all
-- octets; RULES D3)
pub data Cut (c : Carrier) (rs : List Fields) (octets : List ℕ) (n room : ℕ) : Type 0 where
  after_options : (k : ℕ) → EndOf c rs k n → FirstRead c rs octets k n room → Cut c rs octets n room
  elsewhere : ((k : ℕ) → EndOf c rs k n → ⊥) → read_cut c octets n room ≡ refuse refusal.framing → Cut c rs octets n room
