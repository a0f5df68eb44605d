-- What reading the part before a cut gives (RULES D3: "after an option's end this gives, with room, exactly the records before it; anywhere else
-- refusal 3, whatever the room"; RULES D8: "after k whole options that reading is done with the sheet of this carrier and the first k records,
-- found is k, discarded and fault are 0"; room enough is that sheet's length or more, RULES D9). Assumes nothing: these are definitions.
use Rattle.std.specs.Prelude.{◌≡◌, List, ℕ, ◌≤◌, ◌<◌, length, take}
use Rattle.numbers.specs.Refusal as refusal
use Rattle.carriers.specs.declared.Carrier.{Carrier}
use Rattle.blocks.specs.Block.{Fields}
use Rattle.sheets.specs.Sheets.{sheet_of}
use Rattle.reading.specs.declared.Reading.{Reading}
use Rattle.reading.specs.Result.{faultless, refuse, done, Reads}
use Rattle.written.specs.Octets.{octets_of}

-- n is the number of octets of the options for the first k of the records rs; 0 is one of these (RULES D7)
pub record EndOf (c : Carrier) (rs : List Fields) (k n : ℕ) : Type 0 where
  pub within : k ≤ length rs
  pub whole : n ≡ length (octets_of c (take k rs))

-- what a call returned and left that was lent the buffer `sheet`, which afterwards holds `sheet'`, and that read the part before a cut after n octets:
-- every number, and the whole buffer (RULES D3, D8, D9)
pub data CutCall (c : Carrier) (rs : List Fields) (n : ℕ) (sheet : List ℕ) (r : Reading) (sheet' : List ℕ) : Type 0 where
  first_records : (k : ℕ) → EndOf c rs k n → length (sheet_of c (take k rs)) ≤ length sheet
      → Reads (done (faultless (sheet_of c (take k rs)) k)) sheet r sheet' → CutCall c rs n sheet r sheet'
  no_room : (k : ℕ) → EndOf c rs k n → length sheet < length (sheet_of c (take k rs)) → Reads (refuse refusal.room) sheet r sheet'
      → CutCall c rs n sheet r sheet'
  unframed : ((k : ℕ) → EndOf c rs k n → ⊥) → Reads (refuse refusal.framing) sheet r sheet' → CutCall c rs n sheet r sheet'
