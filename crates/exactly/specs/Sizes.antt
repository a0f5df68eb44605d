-- How many octets a sheet has that reading gives (RULES L5). Assumes nothing.
use Rattle.std.specs.Prelude.{◌≡◌, refl, Bool, true, false, cond, List, [], ◌∷◌, map, ℕ, zero, suc, ◌+◌, ◌-◌, ◌≤◌, ◌<◌, ltb, eqb, length, take, drop, Option, Some, None}
use Rattle.std.proofs.Common.{subst, arith, ltb-true, ltb-false}
use Rattle.octets.specs.Lists.{All}
use Rattle.octets.specs.ListsLaws.{all_append, flat-few}
use Rattle.octets.specs.Numbers.{at16}
use Rattle.numbers.specs.Refusal as refusal
use Rattle.numbers.specs.Fault as fault
use Rattle.numbers.specs.Limit as limit
use Rattle.carriers.specs.declared.Carrier.{Carrier}
use Rattle.carriers.specs.declared.Carrier.TheVariants.{Dhcp4}
use Rattle.carriers.specs.Carriers.{chosen_of, header_of}
use Rattle.carriers.proofs.CarriersLaws.{by-joined}
use Rattle.frames.specs.Frame.{Framed, framed, frame}
use Rattle.frames.specs.Area.{blocks_of}
use Rattle.frames.specs.Frame as area
use Rattle.blocks.specs.Block.{Fields}
use Rattle.judge.specs.Place.{Judged}
use Rattle.judge.specs.Place.{judged}
use Rattle.records.specs.Records.{Outcome, faulty, kept, further, record_of}
use Rattle.records.specs.Yielded.{outcome_of}
use Rattle.records.specs.RecordsLaws.{record-small}
use Rattle.sheets.specs.Sheets.{sheet_of}
use Rattle.sheets.specs.SheetsLaws.{length-sheet}
use Rattle.reading.specs.Reading.{ahead, instance, instances_from, joined_yield, yield_of, in_order, settle, read_yields, read_framed, read_chosen, read_of}
use Rattle.reading.specs.Result.{Yield, discarded, yields, single, records_in, arrivals, discarded_in, first_fault, Done, Answer, refuse, done}
use Rattle.reading.specs.ListLaws.{sort-laid}

-- ---- what a block yields

-- a record of at most 2,298 octets
abbrev Small : Carrier → Fields → Type 0
Small c r = length (record_of c r) ≤ limit.record_size

abbrev Smalls : Carrier → Yield → Type 0
Smalls c y = All (Small c) (records_in y)

-- a discarded block has no record
unless-small : (c : Carrier) (bad : Bool) (j : Judged) (y : Yield) → Smalls c y → Smalls c (cond bad (discarded j) y)
unless-small c true j y h = tt
unless-small c false j y h = h

single-small : (c : Carrier) (n : ℕ) (o : Outcome) → ((r : Fields) → o ≡ kept r → Small c r) → Smalls c (single (further n o))
single-small c n (faulty j) h = tt
single-small c n (kept r) h = (h r refl, tt)

ahead_small : (c : Carrier) (n : ℕ) (o : Outcome) (y : Yield) → ((r : Fields) → o ≡ kept r → Small c r) → Smalls c y → Smalls c (ahead (further n o) y)
ahead_small c n (faulty j) y h later = tt
ahead_small c n (kept r) (discarded j) h later = tt
ahead_small c n (kept r) (yields rs) h later = (h r refl, later)

instance-small : (at : ℕ) (l : List ℕ) (go : ℕ → Yield) → ((k : ℕ) → Smalls Dhcp4 (go k)) → Smalls Dhcp4 (instance at l go)
instance-small at l go later =
    let b : List ℕ = take (at16 l 0) (drop 2 l) in
    let y : Yield = ahead (further (at + 2) (outcome_of Dhcp4 b)) (go (1 + at16 l 0)) in
    let past : Bool = ltb (length l - 2) (at16 l 0) in
    let none : Judged = judged fault.field 0 in
    let small : Smalls Dhcp4 y = ahead_small Dhcp4 (at + 2) (outcome_of Dhcp4 b) (go (1 + at16 l 0)) (record-small Dhcp4 b) (later (1 + at16 l 0)) in
    unless-small Dhcp4 (ltb (length l) 2) none (cond past (discarded none) y) (unless-small Dhcp4 past none y small)

instances-small : (k at : ℕ) (l : List ℕ) → Smalls Dhcp4 (instances_from k at l)
unfolding instances_from
instances-small k at [] = tt
instances-small zero at (x ∷ xs) = instance-small at (x ∷ xs) (λ k. instances_from k (at + 1) xs) (λ k. instances-small k (at + 1) xs)
instances-small (suc k) at (x ∷ xs) = instances-small k (at + 1) xs

joined_small : (b : List ℕ) → Smalls Dhcp4 (joined_yield b)
unfolding joined_yield
joined_small b = unless-small Dhcp4 (eqb (length b) 0) (judged fault.field 0) (instances_from 0 0 b) (instances-small 0 0 b)

block-small : (c : Carrier) (b : List ℕ) → Smalls c (yield_of c b)
block-small =
    by-joined (λ c. (b : List ℕ) → Smalls c (yield_of c b)) joined_small
    (λ c e b. rw e (single-small c (header_of c) (outcome_of c b) (record-small c b)))

arrivals-small : (c : Carrier) (bs : List (List ℕ)) → All (Small c) (arrivals (map (yield_of c) bs))
arrivals-small c [] = tt
arrivals-small c (b ∷ bs) = all_append (Small c) (records_in (yield_of c b)) (arrivals (map (yield_of c) bs)) (block-small c b) (arrivals-small c bs)

-- ---- a sheet of such records

-- 16 records at most, in order
ordered-few : (c : Carrier) (rs : List Fields) → All (Small c) rs → length rs ≤ limit.records → length (sheet_of c (in_order rs)) ≤ limit.sheet_size
ordered-few c rs h few =
    omega (arith, length-sheet c (in_order rs), sort-laid (record_of c) (λ (r : Fields). r.priority) rs, flat-few (record_of c) (Small c) limit.record_size rs (λ r small. small) h)

-- ---- the answer

-- a sheet that is given has at most 36,775 octets, and 5 is answered for less room alone
abbrev Within : ℕ → Answer → Type 0
Within room (refuse k) = k ≡ refusal.room → room < limit.sheet_size
Within room (done d) = length d.sheet ≤ limit.sheet_size

settle-within : (room : ℕ) (rs : List Fields) (d : Done) → (length rs ≤ limit.records → length d.sheet ≤ limit.sheet_size) → Within room (settle room rs d)
settle-within room rs d size = go (ltb limit.records (length rs)) refl (ltb room (length d.sheet)) refl
  where
    go : (more : Bool) → ltb limit.records (length rs) ≡ more → (short : Bool) → ltb room (length d.sheet) ≡ short
        → Within room (cond more (refuse refusal.records) (cond short (refuse refusal.room) (done d)))
    go true m short s = λ e. absurd (omega arith)
    go false m true s = λ e. omega (arith, ltb-true room (length d.sheet) s, size (ltb-false _ _ m))
    go false m false s = size (ltb-false _ _ m)

yields_within : (c : Carrier) (ys : List Yield) (room : ℕ) → All (Small c) (arrivals ys) → Within room (read_yields c ys room)
yields_within c ys room h =
    settle-within room (arrivals ys)
    (record {
      sheet = sheet_of c (in_order (arrivals ys));
      found = length ys;
      discarded = discarded_in ys;
      fault = (first_fault ys).fault;
      place = (first_fault ys).place;
    })
    (ordered-few c (arrivals ys) h)

framed-within : (c : Carrier) (f : Framed) (room : ℕ) → Within room (read_framed c f room)
framed-within c area.fault room = λ e. absurd (omega arith)
framed-within c (framed bodies) room = yields_within c (map (yield_of c) (blocks_of c bodies)) room (arrivals-small c (blocks_of c bodies))

chosen-within : (k : Option Carrier) (s : List ℕ) (room : ℕ) → Within room (read_chosen k s room)
chosen-within None s room = λ e. absurd (omega arith)
chosen-within (Some c) s room = go (ltb limit.input (length s))
  where
    go : (long : Bool) → Within room (cond long (refuse refusal.input) (read_framed c (frame c s) room))
    go true = λ e. absurd (omega arith)
    go false = framed-within c (frame c s) room

read-within : (n : ℕ) (s : List ℕ) (room : ℕ) → Within room (read_of n s room)
unfolding read_of
read-within n s room = chosen-within (chosen_of n) s room

-- a sheet that reading gives has at most 36,775 octets (RULES L5)
pub sheet-small : (n : ℕ) (s : List ℕ) (room : ℕ) (d : Done) → read_of n s room ≡ done d → length d.sheet ≤ limit.sheet_size
sheet-small n s room d e = subst (Within room) e (read-within n s room)

-- so a buffer of 36,775 octets is never too short for it (RULES L5)
pub never-short : (n : ℕ) (s : List ℕ) (room : ℕ) → limit.sheet_size ≤ room → read_of n s room ≡ refuse refusal.room → ⊥
never-short n s room enough e = let h : room < limit.sheet_size = subst (Within room) e (read-within n s room) refl in omega arith
