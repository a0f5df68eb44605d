-- A chosen carrier by the numbers given back (RULES R1, R42): 0, with the carrier's own number; or the number that refuses, since no carrier has
-- the one given, which is 1 when an area is read and 42 where a sheet says it. Assumes nothing: these are definitions.
use Rattle.std.specs.Prelude.{◌≡◌, ◌⊎◌, ℕ, Option, Some, None}
use Rattle.numbers.specs.Refusal as refusal
use Rattle.carriers.specs.declared.Carrier.{Carrier}
use Rattle.carriers.specs.Carriers.{number_of}

-- the number of the answer, where `none` refuses
abbrev pub chosen_number : ℕ → Option Carrier → ℕ
chosen_number none (Some c) = 0
chosen_number none None = none

-- when an area is read, and where a sheet says it
abbrev pub read_number : Option Carrier → ℕ
read_number r = chosen_number refusal.carrier r

abbrev pub sheet_number : Option Carrier → ℕ
sheet_number r = chosen_number refusal.sheet_carrier r

-- its value: the carrier's own number, and 0 where there is no carrier
abbrev pub carrier_in : Option Carrier → ℕ
carrier_in (Some c) = number_of c
carrier_in None = 0

-- what an answer says of the number n, where `none` refuses: 0, and the carrier has this number; or `none`, and no carrier has it
abbrev pub Chooses : ℕ → ℕ → Option Carrier → Type 0
Chooses none n r = ((chosen_number none r ≡ 0) × (carrier_in r ≡ n)) ⊎ ((chosen_number none r ≡ none) × ((c : Carrier) → number_of c ≡ n → ⊥))
