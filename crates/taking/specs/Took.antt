-- What `head` and `take` answer. Assumes nothing: these are definitions.
use Rattle.std.specs.Prelude.{Bool, true, false, ℕ, Result, Ok, Err, length}
use Rattle.numbers.specs.declared.Refusal as numbers
use Rattle.numbers.specs.Refusal.{number_of}
use Rattle.carriers.specs.declared.Carrier.{Carrier}
use Rattle.taking.specs.declared.Front.{Front}
use Rattle.taking.specs.declared.Sheet as taken
use Rattle.taking.specs.Taking.{Headed, Taken, refuse, head, sheet, Records, none, records}

-- the refusal's number; or the carrier octet and the record count
pub data Said : Type 0 where
  Unfit : ℕ → Said
  Head : (carrier count : ℕ) → Said

abbrev pub said_of : Headed → Said
said_of (refuse k) = Unfit k
said_of (head carrier count) = Head carrier count

-- the same of the code's answer: no two refusals have one number
abbrev pub said_in : Result Front numbers.Refusal → Said
said_in (Ok f) = Head f.carrier f.count
said_in (Err r) = Unfit (number_of r)

-- the refusal's number; or the sheet's carrier and how many records it has
pub data Took : Type 0 where
  Refused : ℕ → Took
  Sheet : (carrier : Carrier) (count : ℕ) → Took

abbrev pub took_of : Taken → Took
took_of (refuse k) = Refused k
took_of (sheet c rs) = Sheet c (length rs)

-- the same of the code's answer
abbrev pub took_in : Result taken.Sheet numbers.Refusal → Took
took_in (Ok t) = Sheet t.carrier t.count
took_in (Err r) = Refused (number_of r)

-- there are records
abbrev pub some : Records → Bool
some none = false
some (records rs) = true
