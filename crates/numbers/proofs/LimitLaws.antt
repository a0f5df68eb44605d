-- The limits hang together (RULES L5, L6): what a record, a sheet and an option of carrier 3 have at most follows from the others. Assumes nothing.
use Rattle.std.specs.Prelude.{◌≡◌, refl, ◌+◌, ◌*◌}
use Rattle.numbers.specs.Limit.{records, addresses, parameters, record_size, sheet_size, option}

-- priority 2, lifetime 4, mode 1, name length 1, a name of 255, address count 1, addresses of 16, parameter length 2, parameters
pub record-limit : record_size ≡ 2 + 4 + 1 + 1 + 255 + 1 + addresses * 16 + 2 + parameters
record-limit = refl

-- a head of 7, and the records
pub sheet-limit : sheet_size ≡ 7 + records * record_size
sheet-limit = refl

-- a length octet of at most 255 units of eight
pub option-limit : option ≡ 255 * 8
option-limit = refl
