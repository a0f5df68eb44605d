-- Taking a sheet (RULES S1 to S5; the tests 2, 40, 41, 42, 4, 43 of RULES T5): any octets are refused by number, or are a carrier and its
-- records. Assumes nothing: these are definitions.
use Rattle.std.specs.Prelude.{Bool, cond, not, ◌&&◌, List, [], ◌∷◌, ℕ, zero, suc, ◌*◌, ltb, eqb, length, get_or, take, drop, Option, Some, None}
use Rattle.octets.specs.Lists.{same}
use Rattle.octets.specs.Numbers.{at16}
use Rattle.octets.specs.Fields.{part, number, counted}
use Rattle.numbers.specs.Refusal as refusal
use Rattle.numbers.specs.Limit as limit
use Rattle.carriers.specs.declared.Carrier.{Carrier}
use Rattle.carriers.specs.Carriers.{chosen_of, address_width, lifetime_width}
use Rattle.carriers.specs.Told.{sheet_number}
use Rattle.blocks.specs.Block.{Fields, name_only, whole}
use Rattle.sheets.specs.Sheets.{letters, edition, front_size, version_at, carrier_at, count_at}

-- ---- the head

-- what a sheet's head says: a refusal's number, or the carrier octet and the record count
pub data Headed : Type 0 where
  refuse : ℕ → Headed
  head : (carrier count : ℕ) → Headed

-- 2, 40, 41
unfoldable pub head_of : List ℕ → Headed
head_of s =
    cond (ltb limit.input (length s)) (refuse refusal.input)
    (cond (ltb (length s) front_size) (refuse refusal.sheet)
    (cond (not (same (take version_at s) letters)) (refuse refusal.sheet)
    (cond (not (eqb (at16 s version_at) edition)) (refuse refusal.version)
    (head (get_or s carrier_at 0) (get_or s count_at 0)))))

-- ---- the records after it

-- the records, or that the octets do not tile, a mode is not 0 or 1, priorities fall, or a lifetime stands where none belongs
pub data Records : Type 0 where
  none : Records
  records : List Fields → Records

abbrev pub onto : Fields → Records → Records
onto r none = none
onto r (records rs) = records (r ∷ rs)

-- a lifetime stands where none belongs: 43
abbrev pub misplaced : Carrier → ℕ → Bool
misplaced c lifetime = eqb (lifetime_width c) 0 && not (eqb lifetime 0)

-- what mode 1 adds: address count, addresses, parameter length, parameters
abbrev pub full_fields : Carrier → ℕ → ℕ → List ℕ → List ℕ → (Fields → List ℕ → Records) → Records
full_fields c priority lifetime name l next =
    number none 1 l (λ count l.
    part none (count * address_width c) l (λ addresses l.
    counted none 2 l (λ parameters l.
    next (whole priority lifetime name addresses parameters) l)))

-- one record at the front: priority, lifetime, mode, name after its length; `least` is the priority of the record before, or 0
abbrev pub one_record : Carrier → ℕ → List ℕ → (Fields → List ℕ → Records) → Records
one_record c least l next =
    number none 2 l (λ priority l.
    number none 4 l (λ lifetime l.
    number none 1 l (λ mode l.
    counted none 1 l (λ name l.
    cond (ltb priority least) none
    (cond (misplaced c lifetime) none
    (cond (eqb mode 0) (next (name_only priority lifetime name) l)
    (cond (eqb mode 1) (full_fields c priority lifetime name l next) none)))))))

-- so many records, and nothing after the last
unfoldable pub records_from : Carrier → ℕ → ℕ → List ℕ → Records
records_from c zero least [] = records []
records_from c zero least (x ∷ xs) = none
records_from c (suc n) least l = one_record c least l (λ r l. onto r (records_from c n r.priority l))

-- ---- the sheet

pub data Taken : Type 0 where
  refuse : ℕ → Taken
  sheet : Carrier → List Fields → Taken

-- 43
abbrev pub take_found : Carrier → Records → Taken
take_found c none = refuse refusal.tiling
take_found c (records rs) = sheet c rs

-- 4, then 43
abbrev pub take_records : Carrier → ℕ → List ℕ → Taken
take_records c count l = cond (ltb limit.records count) (refuse refusal.records) (take_found c (records_from c count 0 l))

-- 42
abbrev pub take_carrier : Option Carrier → ℕ → List ℕ → Taken
take_carrier None count l = refuse (sheet_number None)
take_carrier (Some c) count l = take_records c count l

-- 2, 40, 41
abbrev pub take_headed : Headed → List ℕ → Taken
take_headed (refuse k) l = refuse k
take_headed (head carrier count) l = take_carrier (chosen_of carrier) count l

unfoldable pub take_of : List ℕ → Taken
take_of s = take_headed (head_of s) (drop front_size s)
