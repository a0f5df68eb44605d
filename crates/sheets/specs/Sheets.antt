-- A record sheet, edition 1 (RULES S1 to S3). Assumes nothing: these are definitions.
use Rattle.std.specs.Prelude.{List, [], ◌∷◌, ◌++◌, map, ℕ, length}
use Rattle.octets.specs.Numbers.{be}
use Rattle.octets.specs.Lists.{flat}
use Rattle.carriers.specs.declared.Carrier.{Carrier}
use Rattle.carriers.specs.Carriers.{number_of}
use Rattle.blocks.specs.Block.{Fields}
use Rattle.records.specs.Records.{record_of}

-- the three letters RSV (RULES S1)
abbrev pub letters : List ℕ
letters = 82 ∷ 83 ∷ 86 ∷ []

-- the version, which is this edition's number (RULES S1)
abbrev pub edition : ℕ
edition = 1

-- octets of the head, and where version, carrier and record count stand in it (RULES S1)
abbrev pub front_size : ℕ
front_size = 7

abbrev pub version_at : ℕ
version_at = 3

abbrev pub carrier_at : ℕ
carrier_at = 5

abbrev pub count_at : ℕ
count_at = 6

-- the head, 7 octets: letters, 16-bit version, carrier, record count (RULES S1)
unfoldable pub front_of : Carrier → ℕ → List ℕ
front_of c count = letters ++ (be 2 edition ++ (be 1 (number_of c) ++ be 1 count))

-- the records' octets one after another; nothing follows the last (RULES S3)
abbrev pub records_of : Carrier → List Fields → List ℕ
records_of c rs = flat (map (record_of c) rs)

-- a sheet: the head, and the records (RULES S1 to S3)
unfoldable pub sheet_of : Carrier → List Fields → List ℕ
sheet_of c rs = front_of c (length rs) ++ records_of c rs
