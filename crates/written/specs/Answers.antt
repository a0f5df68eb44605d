-- What writing answers, stated as what is true of the octets and not as steps to take (RULES T5): each number exactly if its test fails and none
-- before it does. Assumes nothing: these are definitions.
use Rattle.std.specs.Prelude.{◌≡◌, List, ◌∷◌, ◌++◌, ℕ, ◌+◌, ◌≤◌, ◌<◌, length}
use Rattle.octets.specs.Lists.{All}
use Rattle.numbers.specs.Refusal as refusal
use Rattle.numbers.specs.Limit as limit
use Rattle.carriers.specs.declared.Carrier.{Carrier}
use Rattle.carriers.specs.Carriers.{number_of}
use Rattle.blocks.specs.Block.{Fields}
use Rattle.judge.specs.declared.Side.TheVariants.{Writing}
use Rattle.judge.specs.Allowed.{NameAllowed, Allowed, FirstBroken, PlaceOf}
use Rattle.records.specs.Records.{head_size, record_of}
use Rattle.sheets.specs.Sheets.{letters, front_size}
use Rattle.taking.specs.Sheet.{IsHead, IsSheet}
use Rattle.answers.specs.Answers.{Answer, refuse, written}
use Rattle.written.specs.Octets.{octets_of}
use Rattle.written.specs.Accepted.{Sized, Accepted}

-- s has the octets of a head at least, and begins with the letters RSV (RULES R40)
pub record Lettered (s : List ℕ) : Type 0 where
  pub rest : List ℕ
  pub is : s ≡ letters ++ rest
  pub enough : front_size ≤ length s

-- k is the first fault, 21 to 28, of the first record that has one (RULES T5), and p its place, where the records stand from index `at` of the sheet
-- on, and a record's name after its head (RULES S2, T8)
pub data FirstFault (c : Carrier) : ℕ → List Fields → (k p : ℕ) → Type 0 where
  here : {at : ℕ} {r : Fields} {rs : List Fields} {k p : ℕ} → FirstBroken Writing c r k → (k ≡ 0 → ⊥)
      → PlaceOf (NameAllowed Writing c) r.name (at + head_size) k p → FirstFault c at (r ∷ rs) k p
  later : {at : ℕ} {r : Fields} {rs : List Fields} {k p : ℕ} → Allowed Writing c r → FirstFault c (at + length (record_of c r)) rs k p
      → FirstFault c at (r ∷ rs) k p

-- writing answers this to s with an output buffer of `room` octets: 2, 40, 41, 42, 4, 43, 21 to 28 record by record, 44 and 5 in this order, or
-- the octets (RULES T5)
pub data Answers (s : List ℕ) (room : ℕ) : Answer → Type 0 where
  too_long : limit.input < length s → Answers s room (refuse refusal.input 0)
  no_letters : length s ≤ limit.input → (Lettered s → ⊥) → Answers s room (refuse refusal.sheet 0)
  other_version : length s ≤ limit.input → Lettered s → ((carrier count : ℕ) → IsHead s carrier count → ⊥) → Answers s room (refuse refusal.version 0)
  no_carrier : {carrier count : ℕ} → IsHead s carrier count → ((c : Carrier) → number_of c ≡ carrier → ⊥) → Answers s room (refuse refusal.sheet_carrier 0)
  too_many : (c : Carrier) {count : ℕ} → IsHead s (number_of c) count → limit.records < count → Answers s room (refuse refusal.records 0)
  untiled : (c : Carrier) {count : ℕ} → IsHead s (number_of c) count → count ≤ limit.records → ((rs : List Fields) → IsSheet s c rs → ⊥)
      → Answers s room (refuse refusal.tiling 0)
  faulty : {c : Carrier} {rs : List Fields} {k p : ℕ} → IsSheet s c rs → FirstFault c front_size rs k p → Answers s room (refuse k p)
  large : {c : Carrier} {rs : List Fields} → IsSheet s c rs → All (Allowed Writing c) rs → (All (Sized c) rs → ⊥) → Answers s room (refuse refusal.large 0)
  no_room : {c : Carrier} {rs : List Fields} → Accepted s c rs → room < length (octets_of c rs) → Answers s room (refuse refusal.room 0)
  is-written : {c : Carrier} {rs : List Fields} → Accepted s c rs → length (octets_of c rs) ≤ room → Answers s room (written (octets_of c rs))
