-- By which number the command refuses octets, what it takes its input for (docs/COMMAND.md, "Input"), and the exit status of each. Assumes nothing:
-- these are definitions.
use Rattle.std.specs.Prelude.{◌≡◌, Bool, true, false, cond, ◌&&◌, List, ℕ, eqb, ℤ, pos, take, Option, Some, None}
use Rattle.numbers.specs.Limit as limit
use Rattle.carriers.specs.declared.Carrier.{Carrier}
use Rattle.carriers.specs.Told.{carrier_in}
use Rattle.reading.specs.declared.Reading.{Reading}
use Rattle.reading.specs.Result as reading
use Rattle.reading.specs.Reading.{read_of}
use Rattle.vetting.specs.Vetting.{Told, Refused, Sheet, vet_of}
use Rattle.vetting.specs.Vetting as vetting
use Rattle.written.specs.Writing.{write_of}
use Rattle.answers.specs.Answers as answers
use Rattle.inputs.specs.Read.{Read, Octets, Bad, Long}
use Rattle.decoding.specs.Decoding.{Answer}
use Rattle.decoding.specs.Decoding as decoding
use Rattle.arguments.specs.declared.asked.Asked.{Asked}
use Rattle.arguments.specs.declared.Command.{Command}
use Rattle.arguments.specs.declared.Command.TheVariants as command
use Rattle.arguments.specs.Form as form
use Rattle.files.specs.Status.{Delivered, Denied, Answers, refused, failed}

-- ---- reading

-- what reading an area answers, with room for any sheet
abbrev pub reading_of : ℕ → List ℕ → Reading
reading_of carrier area = reading.told (read_of carrier area limit.sheet_size)

-- nothing was found, or something was discarded
abbrev pub less : Reading → Bool
less r = cond (eqb r.found 0) true (cond (eqb r.discarded 0) false true)

-- what was asked for was given, or with the answer no
abbrev pub Gives : Bool → ℤ → Type 0
Gives true x = Denied x
Gives false x = Delivered x

-- a reading is refused by its number; else it is given, and with `--strict` the answer is no where there is less than all
pub record ReadAs (strict : Bool) (r : Reading) (x : ℤ) : Type 0 where
  pub done : r.number ≡ 0 → Gives (strict && less r) x
  pub refuses : (r.number ≡ 0 → ⊥) → x ≡ pos refused

-- ---- writing and showing

-- the number that writing a sheet answers, with room for 40,960 octets
abbrev pub write_number : List ℕ → ℕ
write_number sheet = (answers.told (write_of sheet limit.input)).number

-- a sheet is shown when writing would accept it: one that passes, and of which no record is large (44)
abbrev pub Fitting : Bool → ℤ → Type 0
Fitting true r = r ≡ pos refused
Fitting false r = Delivered r

abbrev pub Shows : Told → ℤ → Type 0
Shows (Refused k p) r = r ≡ pos refused
Shows (Sheet c n large size) r = Fitting large r

-- ---- what is asked, done with octets

-- by the command; without a carrier an area is read as of 0, which is none
abbrev pub performing : Option Command → Asked → List ℕ → ℤ → Type 0
performing (Some command.Read) a s r = ReadAs a.strict (reading_of (carrier_in a.carrier) s) r
performing (Some command.Write) a s r = Answers (write_number s) r
performing (Some command.Show) a s r = Shows (vetting.told (vet_of s)) r
performing c a s r = Delivered r

abbrev pub Performs : Asked → List ℕ → ℤ → Type 0
Performs a s r = performing a.command a s r

-- ---- the input

-- the octets of an input, or the options of its values
abbrev pub valued : Option Carrier → ℕ → List ℕ → List ℕ → Answer
valued (Some c) form text out = decoding.values_of form c text out
valued None form text out = decoding.read_of form text out

unfoldable pub input_of : Asked → List ℕ → List ℕ → Answer
input_of a text out =
    cond a.value (valued a.carrier (form.number_in a.form) text out) (decoding.read_of (form.number_in a.form) text out)

-- the status: more octets than are taken are refused (2)
abbrev pub takes : Asked → Read → List ℕ → ℤ → Type 0
takes a (Octets n) out r = Performs a (take n out) r
takes a (Bad at w) out r = r ≡ pos failed
takes a Long out r = r ≡ pos refused

abbrev pub Takes : Asked → Answer → ℤ → Type 0
Takes a i r = takes a i.read i.out r
