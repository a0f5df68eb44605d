-- What is said of a boundary piece (RULES K1 to K12): its octets, what reading them and writing their sheet give, and the sentences
-- that its row adds in words; and the statement of an entry. Assumes nothing: these are definitions.
use Rattle.std.specs.Prelude.{◌≡◌, List, [], map, ℕ, ◌-◌, ◌≤◌, ◌<◌, length, take, drop, Option, Some, None}
use Rattle.octets.specs.Numbers.{number_at}
use Rattle.octets.specs.Lists.{All, flat}
use Rattle.octets.specs.Over.{over}
use Rattle.numbers.specs.Refusal as refusal
use Rattle.carriers.specs.declared.Carrier.{Carrier}
use Rattle.carriers.specs.declared.Carrier.TheVariants.{Dhcp4}
use Rattle.carriers.specs.Carriers.{chosen_of}
use Rattle.frames.specs.Frame.{Framed, framed, frame}
use Rattle.frames.specs.Frame as area
use Rattle.blocks.specs.Block.{Fields}
use Rattle.reading.specs.Reading.{read_of}
use Rattle.reading.specs.Result.{Done, done}
use Rattle.reading.specs.Result as reading
use Rattle.taking.specs.Taking.{Taken, take_of}
use Rattle.taking.specs.Taking as taking
use Rattle.written.specs.Writing.{write_of}
use Rattle.answers.specs.Answers.{written}
use Rattle.answers.specs.Answers as writing

-- ---- an entry

-- what writing a piece's sheet gives: its octets again, or others, since a discarded block is not in the sheet, and records stand there by
-- rising priority
pub data Back : Type 0 where
  again : Back
  others : List ℕ → Back

-- a sentence in words
pub data Claim : Type 0 where
  -- "52 octets"; "Sheet, 60 octets"; of a part: N is "18 octets"
  octets : ℕ → Claim
  sheet_octets : ℕ → Claim
  part_octets : List ℕ → ℕ → Claim
  -- "length octet 7", "ADN length 16": a number in so many octets of the area, from a place on
  number : (width place n : ℕ) → Claim
  -- "no padding": the last octets of the area
  ends : List ℕ → Claim
  -- "joined data of 300 octets, written as options of 255 and 45"
  joined : ℕ → Claim
  options : List ℕ → Claim
  -- "K1 with ::1 in the place of A": another area with `new` in the place of the `old` octets, from a place on
  replaced : (area : List ℕ) (place : ℕ) (old new : List ℕ) → Claim
  -- "A buffer of 59 octets for K1 is 5, one of 60 done" (RULES K13)
  short : ℕ → Claim
  enough : ℕ → Claim

-- one boundary piece: its number, K1 to K12; octets read under a carrier number; what the reading gives; the records of its sheet; what writing
-- the sheet gives; and what else its row says
pub record Piece : Type 0 where
  pub k : ℕ
  pub carrier : ℕ
  pub area : List ℕ
  pub gives : Done
  pub records : List Fields
  pub back : Back
  pub says : List Claim

-- a sheet and one block found, which is discarded for a fault other than 22
abbrev pub one_discarded : List ℕ → ℕ → Done
one_discarded sheet fault = record { sheet = sheet; found = 1; discarded = 1; fault = fault; place = 0 }

-- ---- what a sentence means

-- the data of each option 162 of an area
abbrev pub bodies : Framed → List (List ℕ)
bodies area.fault = []
bodies (framed bs) = bs

abbrev pub data_of : Piece → List (List ℕ)
data_of p = bodies (frame Dhcp4 p.area)

-- so many last octets
abbrev pub last_of : ℕ → List ℕ → List ℕ
last_of n l = drop (length l - n) l

abbrev pub Means : Piece → Claim → Type 0
Means p (octets n) = length p.area ≡ n
Means p (sheet_octets n) = length p.gives.sheet ≡ n
Means p (part_octets l n) = length l ≡ n
Means p (number w i n) = number_at w i p.area ≡ n
Means p (ends l) = last_of (length l) p.area ≡ l
Means p (joined n) = length (flat (data_of p)) ≡ n
Means p (options ns) = map length (data_of p) ≡ ns
Means p (replaced l i old new) = (take (length old) (drop i l) ≡ old) × (p.area ≡ over i new l)
Means p (short room) = read_of p.carrier p.area room ≡ reading.refuse refusal.room
Means p (enough room) = read_of p.carrier p.area room ≡ done p.gives

-- ---- the statement of an entry

-- reading its octets with the room for its sheet, or more, is done with that sheet and these numbers; with less it is refusal 5
pub record IsRead (p : Piece) : Type 0 where
  pub enough : (room : ℕ) → length p.gives.sheet ≤ room → read_of p.carrier p.area room ≡ done p.gives
  pub short : (room : ℕ) → room < length p.gives.sheet → read_of p.carrier p.area room ≡ reading.refuse refusal.room

-- writing its sheet with the room for these octets, or more, gives them; with less it is refusal 5
pub record IsWritten (p : Piece) (bs : List ℕ) : Type 0 where
  pub enough : (room : ℕ) → length bs ≤ room → write_of p.gives.sheet room ≡ written bs
  pub short : (room : ℕ) → room < length bs → write_of p.gives.sheet room ≡ writing.refuse refusal.room 0

-- writing its sheet gives its octets in no room
abbrev pub IsOther : Piece → Type 0
IsOther p = (room : ℕ) → write_of p.gives.sheet room ≡ written p.area → ⊥

abbrev pub Returns : Piece → Back → Type 0
Returns p again = IsWritten p p.area
Returns p (others bs) = IsWritten p bs × IsOther p

-- a sheet of the carrier with this number, with these records
abbrev pub sheet_in : Option Carrier → List Fields → Taken
sheet_in None rs = taking.refuse refusal.sheet_carrier
sheet_in (Some c) rs = taking.sheet c rs

-- reading, writing, the records of the sheet, and each sentence
pub record Holds (p : Piece) : Type 0 where
  pub read : IsRead p
  pub returns : Returns p p.back
  pub taken : take_of p.gives.sheet ≡ sheet_in (chosen_of p.carrier) p.records
  pub said : All (Means p) p.says
