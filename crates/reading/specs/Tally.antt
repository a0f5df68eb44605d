-- What a reading has at hand before it writes: where kept bodies stand in their source, what is held of their records, and what a tally
-- tells of the blocks met. The code has the parts of `Tally` beside what is held as numbers of its own, and hands them on as `Counts`; the laws
-- speak of them together.
-- Assumes nothing: these are definitions.
use Rattle.std.specs.Prelude.{◌≡◌, ◌⊎◌, Bool, true, false, cond, List, [], ◌∷◌, ◌++◌, map, ℕ, ◌+◌, ◌-◌, ◌*◌, ◌≤◌, ◌<◌, min, ltb, length, take, drop, Option, Some, None}
use Rattle.numbers.specs.Refusal as refusal
use Rattle.numbers.specs.Limit as limit
use Rattle.carriers.specs.declared.Carrier.{Carrier}
use Rattle.frames.specs.Step.{part}
use Rattle.blocks.specs.Block.{Fields}
use Rattle.judge.specs.declared.Flaw.{Flaw}
use Rattle.judge.specs.Place.{Judged, judged, flawed}
use Rattle.order.specs.declared.slots.Slot.{Slot}
use Rattle.order.specs.declared.slots.Slots.{Slots}
use Rattle.octets.specs.Lists.{All}
use Rattle.order.specs.Listed.{listed}
use Rattle.records.specs.Records.{Outcome, faulty, kept}
use Rattle.records.specs.Yielded.{outcome_of}
use Rattle.records.specs.Examined.{Verdict, examined_of, Clean, Kept}
use Rattle.sheets.specs.Sheets.{front_size, sheet_of}
use Rattle.reading.specs.declared.Counts.{Counts}
use Rattle.reading.specs.declared.Held.{Held}
use Rattle.reading.specs.Reading.{in_order}
use Rattle.reading.specs.Result.{Yield, arrivals, discarded_in, first_fault, Answer, refuse, done}

-- ---- slots

-- the body that a slot stands for
abbrev pub body_at : List ℕ → Slot → List ℕ
body_at source s = take s.length (drop s.place source)

-- the record of an outcome; a fault has none, and is read as fields of nothing
abbrev pub record_in : Outcome → Fields
record_in (faulty j) = record { priority = 0; lifetime = 0; full = false; name = []; addresses = []; parameters = [] }
record_in (kept r) = r

abbrev pub record_at : Carrier → List ℕ → Slot → Fields
record_at c source s = record_in (outcome_of c (body_at source s))

-- a slot's body stands in the source, yields a record that has the slot's priority, and is clean where that is claimed
pub record Good (c : Carrier) (source : List ℕ) (claimed : Bool) (s : Slot) : Type 0 where
  pub within : s.place + s.length ≤ length source
  pub yields : Kept (outcome_of c (body_at source s))
  pub ranked : (record_at c source s).priority ≡ s.priority
  pub clean : claimed ≡ true → Clean c (body_at source s)

-- the records of a list of slots
abbrev pub records_at : Carrier → List ℕ → Slots → List Fields
records_at c source slots = map (record_at c source) (listed slots)

-- ---- records kept

-- of at most 16 records: where their bodies stand, the octets of a sheet of them, and whether their bodies are all known to be clean; and
-- whether there are more records, and then nothing else is asked
abbrev pub held_of : Slots → ℕ → Bool → Bool → Held
held_of slots size clean more = record { slots = slots; size = size; clean = clean; more = more }

-- octets of a sheet of n records, at most
abbrev pub largest : ℕ → ℕ
largest n = front_size + limit.record_size * n

-- the slot of a body from `start` to `end`
abbrev pub slot_of : Verdict → ℕ → ℕ → Slot
slot_of e start end = record { priority = e.priority; place = start; length = end - start }

-- e tells of the body from `start` to `end` of the source
pub record Seen (c : Carrier) (source : List ℕ) (start end : ℕ) (e : Verdict) : Type 0 where
  pub low : start ≤ end
  pub high : end ≤ length source
  pub tells : e ≡ examined_of c (outcome_of c (part start end source)) e.clean
  pub small : e.size ≤ limit.record_size
  pub near : e.place ≤ end - start
  pub clean : e.clean ≡ true → Clean c (part start end source)

-- there was room in h, the slots s are those of h and one more, of the body that e tells of, and `clean` claims no more of them than is known
pub record Grown (h : Held) (e : Verdict) (start end : ℕ) (s : Slots) (clean : Bool) : Type 0 where
  pub room : h.slots.count < limit.records
  pub count : s.count ≡ h.slots.count + 1
  pub list : listed s ≡ listed h.slots ++ (slot_of e start end ∷ [])
  pub claims : clean ≡ true → (h.clean ≡ true) × (e.clean ≡ true)

-- one more record, of the body that e tells of: h' has a slot of it, or there was no room, and says that there are more
abbrev pub Keeps : Held → Verdict → ℕ → ℕ → Held → Type 0
Keeps h e start end h' =
    (Grown h e start end h'.slots h'.clean × (h' ≡ held_of h'.slots (h.size + e.size) h'.clean h.more))
    ⊎ ((limit.records ≤ h.slots.count) × (h' ≡ held_of h.slots h.size h.clean true))

-- h has a slot for each of the records rs, and the octets of their sheet
pub record Lists (c : Carrier) (source : List ℕ) (rs : List Fields) (h : Held) : Type 0 where
  pub good : All (Good c source h.clean) (listed h.slots)
  pub records : records_at c source h.slots ≡ rs
  pub size : h.size ≡ length (sheet_of c rs)

-- h is what is held of the kept records rs: all of them, or 16 and that there are more
pub record Holds (c : Carrier) (source : List ℕ) (rs : List Fields) (h : Held) : Type 0 where
  pub count : h.slots.count ≡ min limit.records (length rs)
  pub small : h.size ≤ largest h.slots.count
  pub more : h.more ≡ ltb limit.records (length rs)
  pub lists : length rs ≤ limit.records → Lists c source rs h

-- ---- tallies

-- what is held of the records, the blocks found, the blocks discarded and the first discarded block's fault with its place
pub record Tally : Type 0 where
  pub held : Held
  pub found : ℕ
  pub discarded : ℕ
  pub first : Judged

abbrev pub tally_of : Held → ℕ → ℕ → Judged → Tally
tally_of held found discarded first = record { held = held; found = found; discarded = discarded; first = first }

-- the first discarded block's fault with its place, or 0 for none
abbrev pub first_in : Option Flaw → Judged
first_in None = judged 0 0
first_in (Some w) = flawed w

-- the tally that the code hands on
abbrev pub tally_in : Held → Counts → Tally
tally_in held k = tally_of held k.found k.discarded (first_in k.first)

-- t tells of blocks that yield ys
pub record Shows (c : Carrier) (source : List ℕ) (ys : List Yield) (t : Tally) : Type 0 where
  pub holds : Holds c source (arrivals ys) t.held
  pub found : t.found ≡ length ys
  pub discarded : t.discarded ≡ discarded_in ys
  pub first : t.first ≡ first_fault ys

-- one more block can be tallied
pub record Open (t : Tally) : Type 0 where
  pub few : t.held.slots.count ≤ limit.records
  pub small : t.held.size ≤ largest t.held.slots.count
  pub found : t.found < limit.input
  pub discarded : t.discarded ≤ t.found

-- ---- the answer by a tally

-- the slots can be ordered, and their records written
pub record Sound (c : Carrier) (source : List ℕ) (claimed : Bool) (slots : Slots) : Type 0 where
  pub few : slots.count ≤ limit.records
  pub whole : length (listed slots) ≡ slots.count
  pub good : All (Good c source claimed) (listed slots)

-- where 0 or 5 is to be answered, the slots are sound, and the sheet's size is known
abbrev pub Ready : Carrier → List ℕ → Held → Type 0
Ready c source h =
    h.more ≡ false → Sound c source h.clean h.slots × (h.size ≡ length (sheet_of c (records_at c source h.slots)))

-- 4, 5, or what is done
unfoldable pub answer_of : Carrier → List ℕ → Tally → ℕ → Answer
answer_of c source t room =
    cond t.held.more (refuse refusal.records)
    (cond (ltb room t.held.size) (refuse refusal.room)
    (done (record {
      sheet = sheet_of c (in_order (records_at c source t.held.slots));
      found = t.found;
      discarded = t.discarded;
      fault = t.first.fault;
      place = t.first.place;
    })))
