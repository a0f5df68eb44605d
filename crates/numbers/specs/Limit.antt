-- The limits, house rules (RULES L1 to L6). Assumes nothing: these are definitions.
use Rattle.std.specs.Prelude.{ℕ}

-- octets of input (RULES L1)
abbrev pub input : ℕ
input = 40960

-- records of a sheet (RULES L2)
abbrev pub records : ℕ
records = 16

-- addresses of a record (RULES L3)
abbrev pub addresses : ℕ
addresses = 63

-- octets of a record's parameters (RULES L4)
abbrev pub parameters : ℕ
parameters = 1024

-- octets of a record in a sheet (RULES L5): a head of 8, a name of 255, an address count of 1, 63 addresses of 16, a parameter length of 2,
-- 1,024 of parameters
abbrev pub record_size : ℕ
record_size = 2298

-- octets of a sheet: a head of 7, and 16 such records (RULES L5)
abbrev pub sheet_size : ℕ
sheet_size = 36775

-- octets of a carrier 3 option: 255 units of 8 (RULES L6)
abbrev pub option : ℕ
option = 2040
