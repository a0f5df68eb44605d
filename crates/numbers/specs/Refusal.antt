-- What a call answers instead of a result (RULES R1 to R5, R40 to R44): the same names as in src/. Assumes nothing: these are definitions.
use Rattle.std.specs.Prelude.{ℕ, Result, Ok, Err}
use Rattle.numbers.specs.declared.Refusal.{Refusal}
use Rattle.numbers.specs.declared.Refusal.TheVariants.{Carrier, Input, Framing, Records, Room, Sheet, Version, SheetCarrier, Tiling, Large}

-- reading: the carrier number is not 1 to 5 (RULES R1)
abbrev pub carrier : ℕ
carrier = 1

-- the input is longer than 40,960 octets (RULES R2, L1)
abbrev pub input : ℕ
input = 2

-- area framing: a header or body runs past the end, or carrier 3 length 0 (RULES R3)
abbrev pub framing : ℕ
framing = 3

-- more than 16 records kept, or a sheet's count above 16 (RULES R4, L2)
abbrev pub records : ℕ
records = 4

-- the output is shorter than the result (RULES R5)
abbrev pub room : ℕ
room = 5

-- a sheet shorter than 7 octets, or not RSV (RULES R40)
abbrev pub sheet : ℕ
sheet = 40

-- a sheet's version is not 1 (RULES R41)
abbrev pub version : ℕ
version = 41

-- a sheet's carrier is not 1 to 5 (RULES R42)
abbrev pub sheet_carrier : ℕ
sheet_carrier = 42

-- a sheet does not tile, a mode is not 0 or 1, priorities fall, or a lifetime stands where none belongs (RULES R43)
abbrev pub tiling : ℕ
tiling = 43

-- a carrier 3 record above 2,040 octets when rounded (RULES R44, L6)
abbrev pub large : ℕ
large = 44

-- the number of a refusal of src/
abbrev pub number_of : Refusal → ℕ
number_of Carrier = carrier
number_of Input = input
number_of Framing = framing
number_of Records = records
number_of Room = room
number_of Sheet = sheet
number_of Version = version
number_of SheetCarrier = sheet_carrier
number_of Tiling = tiling
number_of Large = large

-- the number of an answer: 0, or that of the refusal
abbrev pub number_in : {T : Type 0} → Result T Refusal → ℕ
number_in (Ok _) = 0
number_in (Err r) = number_of r
