-- What becomes of a body, of a block and of an area, and what reading answers (RULES D2, W9 to W11, T1, T2), stated as what is true of the octets,
-- not as steps to take. It speaks of lists of numbers; that they are octets is a premise of the laws. Assumes nothing: these are definitions.
use Rattle.std.specs.Prelude.{◌≡◌, true, false, List, [], ◌∷◌, ℕ, ◌+◌, ◌≤◌, ◌<◌, length}
use Rattle.octets.specs.Fields.{put_counted}
use Rattle.numbers.specs.Refusal as refusal
use Rattle.numbers.specs.Fault as fault
use Rattle.numbers.specs.Limit as limit
use Rattle.carriers.specs.declared.Carrier.{Carrier}
use Rattle.carriers.specs.declared.Carrier.TheVariants.{Dhcp4}
use Rattle.carriers.specs.Carriers.{number_of, is_joined, header_of}
use Rattle.order.specs.Order.{Sorted, keep}
use Rattle.frames.specs.Area.{blocks_of, Area}
use Rattle.blocks.specs.Block.{Fields, name_at}
use Rattle.blocks.specs.Holding.{Laid, Short, Misfilled}
use Rattle.judge.specs.declared.Side.TheVariants.{Reading}
use Rattle.judge.specs.Place.{Judged}
use Rattle.judge.specs.Place.{judged, from}
use Rattle.judge.specs.Allowed.{NameAllowed, Allowed, FirstBroken, PlaceOf}
use Rattle.records.specs.Records.{Outcome, faulty, kept, further, keep_of}
use Rattle.sheets.specs.Sheets.{sheet_of}
use Rattle.reading.specs.Result.{Yield, discarded, yields, single, arrivals, discarded_in, first_fault, Done, Answer, refuse, done}

-- ---- a body (in carrier 1 one instance)

-- its fault, the first of 20, 29, 21 to 28, and of 22 the place in the body; or the record that is kept of allowed fields (RULES T2, W11)
pub data BodyIs (c : Carrier) (body : List ℕ) : Outcome → Type 0 where
  short : Short c body → BodyIs c body (faulty (judged fault.field 0))
  misfilled : Misfilled c body → BodyIs c body (faulty (judged fault.padding 0))
  broken : {f : Fields} {k p : ℕ} → Laid c body f → FirstBroken Reading c f k → (k ≡ 0 → ⊥)
      → PlaceOf (NameAllowed Reading c) f.name (name_at c (length f.addresses)) k p → BodyIs c body (faulty (judged k p))
  keeps : {f : Fields} → Laid c body f → Allowed Reading c f → BodyIs c body (kept (keep_of c f))

-- ---- a block

-- joined data begin with an instance: a 16-bit length, and as many octets (RULES B1)
pub record Begins (joined body rest : List ℕ) : Type 0 where
  pub small : length body < 65536
  pub are : joined ≡ put_counted 2 body rest

-- the instances of joined data from index `at` on, one after another (RULES B4); the first with a fault gives the block's (RULES T2), the place counted in
-- the joined data (RULES W11), and where an instance runs past the data it is 20 (RULES R20)
pub data Instances : ℕ → List ℕ → Yield → Type 0 where
  none : {at : ℕ} → Instances at [] (yields [])
  past : {at : ℕ} {joined : List ℕ} → (joined ≡ [] → ⊥) → ((body rest : List ℕ) → Begins joined body rest → ⊥)
      → Instances at joined (discarded (judged fault.field 0))
  first_faulty : {at : ℕ} {joined body rest : List ℕ} {j : Judged} → Begins joined body rest → BodyIs Dhcp4 body (faulty j)
      → Instances at joined (discarded (from (at + 2) j))
  later_faulty : {at : ℕ} {joined body rest : List ℕ} {r : Fields} {j : Judged} → Begins joined body rest → BodyIs Dhcp4 body (kept r)
      → Instances (at + 2 + length body) rest (discarded j) → Instances at joined (discarded j)
  one_more : {at : ℕ} {joined body rest : List ℕ} {r : Fields} {rs : List Fields} → Begins joined body rest → BodyIs Dhcp4 body (kept r)
      → Instances (at + 2 + length body) rest (yields rs) → Instances at joined (yields (r ∷ rs))

-- in carriers 2 to 5 a block is one body (RULES W5 to W7), and places are counted from its header on (RULES W11); in carrier 1 it is one instance or more
-- (RULES B1), and 20 where there is none (RULES R20)
pub data BlockIs (c : Carrier) (block : List ℕ) : Yield → Type 0 where
  one_body : {o : Outcome} → is_joined c ≡ false → BodyIs c block o → BlockIs c block (single (further (header_of c) o))
  no_instance : is_joined c ≡ true → block ≡ [] → BlockIs c block (discarded (judged fault.field 0))
  instances : {y : Yield} → is_joined c ≡ true → (block ≡ [] → ⊥) → Instances 0 block y → BlockIs c block y

-- so of each block, in order (RULES W9)
pub data BlocksAre (c : Carrier) : List (List ℕ) → List Yield → Type 0 where
  none : BlocksAre c [] []
  more : {block : List ℕ} {blocks : List (List ℕ)} {y : Yield} {ys : List Yield} → BlockIs c block y → BlocksAre c blocks ys
      → BlocksAre c (block ∷ blocks) (y ∷ ys)

-- ---- an area

-- rs are the records of `came` by rising priority; records of one priority keep their order (RULES S5)
pub record Arranged (came rs : List Fields) : Type 0 where
  pub rising : Sorted (λ (r : Fields). r.priority) rs
  pub stable : (p : ℕ) → keep (λ (r : Fields). r.priority) p rs ≡ keep (λ (r : Fields). r.priority) p came

-- an area of at most 40,960 octets, framed into blocks, and what each of them yields (RULES L1, W1 to W9)
pub record ReadAs (c : Carrier) (area : List ℕ) (ys : List Yield) (rs : List Fields) : Type 0 where
  pub short : length area ≤ limit.input
  pub bodies : List (List ℕ)
  pub framed : Area c area bodies
  pub blocks : BlocksAre c (blocks_of c bodies) ys
  pub arranged : Arranged (arrivals ys) rs

-- what a reading that is done gives: the sheet, the counts of the blocks, the fault and the place of the first that is discarded (RULES W10, W11)
abbrev pub gives : Carrier → List Yield → List Fields → Done
gives c ys rs = record {
  sheet = sheet_of c rs;
  found = length ys;
  discarded = discarded_in ys;
  fault = (first_fault ys).fault;
  place = (first_fault ys).place;
}

-- ---- the call

-- reading answers this under carrier number n, with an output buffer of `room` octets: 1, 2, 3, 4 and 5 in this order, or it is done (RULES T1)
pub data Answers (n : ℕ) (area : List ℕ) (room : ℕ) : Answer → Type 0 where
  no_carrier : ((c : Carrier) → number_of c ≡ n → ⊥) → Answers n area room (refuse refusal.carrier)
  too_long : (c : Carrier) → number_of c ≡ n → limit.input < length area → Answers n area room (refuse refusal.input)
  unframed : (c : Carrier) → number_of c ≡ n → length area ≤ limit.input → ((bodies : List (List ℕ)) → Area c area bodies → ⊥)
      → Answers n area room (refuse refusal.framing)
  too_many : (c : Carrier) {ys : List Yield} {rs : List Fields} → number_of c ≡ n → ReadAs c area ys rs → limit.records < length rs
      → Answers n area room (refuse refusal.records)
  no_room : (c : Carrier) {ys : List Yield} {rs : List Fields} → number_of c ≡ n → ReadAs c area ys rs → length rs ≤ limit.records
      → room < length (sheet_of c rs) → Answers n area room (refuse refusal.room)
  is_done : (c : Carrier) {ys : List Yield} {rs : List Fields} → number_of c ≡ n → ReadAs c area ys rs → length rs ≤ limit.records
      → length (sheet_of c rs) ≤ room → Answers n area room (done (gives c ys rs))
