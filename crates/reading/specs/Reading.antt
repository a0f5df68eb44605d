-- Reading (RULES W9 to W11, T1): what an area yields under a carrier, the answer of the call, and the sheet it writes.
-- Assumes nothing: these are definitions.
use Rattle.std.specs.Prelude.{cond, List, [], ◌∷◌, map, ℕ, zero, suc, ◌+◌, ◌-◌, ltb, eqb, length, take, drop, Option, Some, None}
use Rattle.octets.specs.Numbers.{at16}
use Rattle.numbers.specs.Refusal as refusal
use Rattle.numbers.specs.Fault as fault
use Rattle.numbers.specs.Limit as limit
use Rattle.carriers.specs.declared.Carrier.{Carrier}
use Rattle.carriers.specs.declared.Carrier.TheVariants.{Dhcp4}
use Rattle.carriers.specs.Carriers.{chosen_of, is_joined, header_of}
use Rattle.carriers.specs.Told.{read_number}
use Rattle.frames.specs.Frame.{Framed, framed, framed_number, frame}
use Rattle.frames.specs.Area.{blocks_of}
use Rattle.frames.specs.Frame as area
use Rattle.blocks.specs.Block.{Fields}
use Rattle.order.specs.Order.{stable_sort}
use Rattle.judge.specs.Place.{judged}
use Rattle.records.specs.Records.{Outcome, faulty, kept, further}
use Rattle.records.specs.Yielded.{outcome_of}
use Rattle.sheets.specs.Sheets.{sheet_of}
use Rattle.reading.specs.Result.{Answer, Done, Yield, arrivals, discarded, discarded_in, done, first_fault, refuse, single, yields}

-- ---- what a block yields

-- an instance's outcome in front of what the later instances yield: the first instance with a fault gives the block's
abbrev pub ahead : Outcome → Yield → Yield
ahead (faulty j) y = discarded j
ahead (kept r) (discarded j) = discarded j
ahead (kept r) (yields rs) = yields (r ∷ rs)

-- `l`, from index `at` of the joined data on, begins with an instance: a 16-bit length, and as many octets; `go k` is what the octets yield that
-- follow the first of `l` and k more
abbrev pub instance : ℕ → List ℕ → (ℕ → Yield) → Yield
instance at l go =
    cond (ltb (length l) 2) (discarded (judged fault.field 0))
    (cond (ltb (length l - 2) (at16 l 0)) (discarded (judged fault.field 0))
    (ahead (further (at + 2) (outcome_of Dhcp4 (take (at16 l 0) (drop 2 l)))) (go (1 + at16 l 0))))

-- the instances of joined data from index `at` on, with the first k octets still to be skipped; where the octets end k is 0, since `instance`
-- has seen that those of the instance before are there
unfoldable pub instances_from : ℕ → ℕ → List ℕ → Yield
instances_from k at [] = yields []
instances_from zero at (x ∷ xs) = instance at (x ∷ xs) (λ k. instances_from k (at + 1) xs)
instances_from (suc k) at (x ∷ xs) = instances_from k (at + 1) xs

-- in carrier 1 a block is one or more instances, and places are counted in the joined data (RULES W11)
unfoldable pub joined_yield : List ℕ → Yield
joined_yield b = cond (eqb (length b) 0) (discarded (judged fault.field 0)) (instances_from 0 0 b)

-- else it is one body, and places are counted from the first octet of its header (RULES W11)
abbrev pub alone : Carrier → List ℕ → Yield
alone c b = single (further (header_of c) (outcome_of c b))

abbrev pub yield_of : Carrier → List ℕ → Yield
yield_of c b = cond (is_joined c) (joined_yield b) (alone c b)

-- ---- what blocks yield together

-- by rising priority; equal priorities keep the order of arrival
abbrev pub in_order : List Fields → List Fields
in_order rs = stable_sort (λ (r : Fields). r.priority) rs

-- ---- the call

-- 5, or done, by the room for the sheet
abbrev pub in_room : Done → ℕ → Answer
in_room d room = cond (ltb room (length d.sheet)) (refuse refusal.room) (done d)

-- 4, then 5
abbrev pub settle : ℕ → List Fields → Done → Answer
settle room rs d = cond (ltb limit.records (length rs)) (refuse refusal.records) (in_room d room)

-- of blocks that yield ys
abbrev pub read_yields : Carrier → List Yield → ℕ → Answer
read_yields c ys room =
    settle room (arrivals ys) (record {
      sheet = sheet_of c (in_order (arrivals ys));
      found = length ys;
      discarded = discarded_in ys;
      fault = (first_fault ys).fault;
      place = (first_fault ys).place;
    })

abbrev pub read_blocks : Carrier → List (List ℕ) → ℕ → Answer
read_blocks c blocks room = read_yields c (map (yield_of c) blocks) room

-- 3
abbrev pub read_framed : Carrier → Framed → ℕ → Answer
read_framed c area.fault room = refuse (framed_number area.fault)
read_framed c (framed bodies) room = read_blocks c (blocks_of c bodies) room

-- 2
abbrev pub read_area : Carrier → List ℕ → ℕ → Answer
read_area c s room = cond (ltb limit.input (length s)) (refuse refusal.input) (read_framed c (frame c s) room)

-- 1
abbrev pub read_chosen : Option Carrier → List ℕ → ℕ → Answer
read_chosen None s room = refuse (read_number None)
read_chosen (Some c) s room = read_area c s room

-- reading under carrier number n, with an output buffer of `room` octets
unfoldable pub read_of : ℕ → List ℕ → ℕ → Answer
read_of n s room = read_chosen (chosen_of n) s room
