-- The answer by a tally is the answer of the definitions. Assumes nothing.
use Rattle.std.specs.Prelude.{◌≡◌, Bool, true, false, cond, ℕ, ◌+◌, ◌≤◌, ◌<◌, ltb, length, take, Option, Some, None, Ok, Err}
use Rattle.std.proofs.Math.Path.{refl, ap, subst⁻¹}
use Rattle.std.proofs.Common.{sym, ◌∙◌, subst, zero-add, arith}
use mathlib.Core.List.{List, [], ◌∷◌, map}
use borrow.Author.Tests.{ltb-false, lt-ltb, le-ltb}
use Rattle.std.proofs.Math.Seq.{take_at}
use Rattle.octets.specs.Over.{over, Wrote}
use Rattle.octets.specs.OverLaws.{over-length, over-fits}
use Rattle.numbers.specs.Refusal as refusal
use Rattle.numbers.specs.Limit as limit
use Rattle.numbers.specs.declared.Refusal.{Refusal}
use Rattle.carriers.specs.declared.Carrier.{Carrier}
use Rattle.carriers.specs.declared.Carrier.TheVariants.{Dhcp4}
use Rattle.carriers.specs.Carriers.{chosen_of, is_joined}
use Rattle.carriers.proofs.CarriersLaws.{other-joined}
use Rattle.octets.specs.Lists.{flat}
use Rattle.frames.specs.Frame.{Framed, fault, framed, frame}
use Rattle.frames.specs.Area.{joined}
use Rattle.frames.specs.Gather.{Several, Joins}
use Rattle.frames.proofs.GatherLaws.{joins-whole}
use Rattle.frames.specs.declared.Step.{Step}
use Rattle.frames.specs.Step.{step_at}
use Rattle.frames.specs.Laws.{step-framing}
use Rattle.frames.specs.WalkLaws.{walked_end, walked-fault}
use Rattle.blocks.specs.Block.{Fields}
use Rattle.records.specs.Records.{record_of}
use Rattle.sheets.specs.Sheets.{front_size, sheet_of}
use Rattle.sheets.specs.SheetsLaws.{length-sheet}
use Rattle.reading.specs.declared.Reading.{Reading}
use Rattle.reading.specs.Reading.{joined_yield, alone, yield_of, in_order, read_yields, read_blocks, read_framed, read_area, read_chosen, read_of}
use Rattle.reading.specs.Result.{Yield, arrivals, Done, Answer, refuse, done, told, left, Reads}
use Rattle.reading.specs.Tally.{records_at, Tally, Shows, answer_of}
use Rattle.reading.specs.ListLaws.{sort-laid}
use Rattle.reading.specs.Walks.{Tallying}

module _ (c : Carrier) (source : List ℕ) (room : ℕ) where
  -- a tally that shows what blocks yield answers for them
  pub answer-yields : {ys : List Yield} {t : Tally} → Shows c source ys t → answer_of c source t room ≡ read_yields c ys room
  unfolding answer_of
  answer-yields {ys} {t} s = go (ltb limit.records (length rs)) refl
    where
      rs : List Fields
      rs = arrivals ys

      go : (b : Bool) → ltb limit.records (length rs) ≡ b → answer_of c source t room ≡ read_yields c ys room
      go true e =
          let more : t.held.more ≡ true = s.holds.more ∙ e in
          rw (more, e)
      go false e =
          let more : t.held.more ≡ false = s.holds.more ∙ e in
          let l = s.holds.lists (ltb-false _ _ e) in
          let size : t.held.size ≡ length (sheet_of c (in_order rs)) =
          l.size
          ∙ length-sheet c rs
          ∙ ap (λ (n : ℕ). front_size + n) (sym (sort-laid (record_of c) (λ (f : Fields). f.priority) rs))
          ∙ sym (length-sheet c (in_order rs)) in
          rw (more, e, l.records, size, s.found, s.discarded, s.first)

-- ---- carriers 2 to 5

module _ (c : Carrier) (area : List ℕ) (room : ℕ) {at : ℕ} {t : Tally} (g : Tallying c area at t) where
  -- at the area's end the tally answers for it
  pub answer-end : (c ≡ Dhcp4 → ⊥) → step_at c area at ≡ Ok Step.End → read_framed c (frame c area) room ≡ answer_of c area t room
  answer-end n e =
      let j = other-joined c n in
      ap (λ (f : Framed). read_framed c f room) (walked_end c area g.walked e)
      ∙ ap (λ (b : Bool). read_blocks c (cond b (joined g.bodies) g.bodies) room) j
      ∙ sym (answer-yields c area room (shown j))
    where
      shown : is_joined c ≡ false → Shows c area (map (yield_of c) g.bodies) t
      shown j = subst⁻¹ (λ (b : Bool). Shows c area (map (λ l. cond b (joined_yield l) (alone c l)) g.bodies) t) j g.shows

  -- where the walk cannot go on, the area cannot be framed
  pub answer-fault : {r : Refusal} → step_at c area at ≡ Err r → read_framed c (frame c area) room ≡ refuse (refusal.number_of r)
  answer-fault e =
      ap (λ (f : Framed). read_framed c f room) (walked-fault c area g.walked e) ∙ ap (λ (r : Refusal). refuse (refusal.number_of r)) (sym (step-framing c area at e))

-- an area that cannot be framed, by the refusal that says so
pub answer-broken : (c : Carrier) (room : ℕ) {f : Framed} (r : Refusal) → (f ≡ fault) × (refusal.number_of r ≡ refusal.framing)
    → read_framed c f room ≡ refuse (refusal.number_of r)
answer-broken c room r e = ap (λ (f : Framed). read_framed c f room) e.0 ∙ ap refuse (sym e.1)

-- ---- carrier 1

-- no option 162
pub answer-absent : (room : ℕ) {f : Framed} → f ≡ framed [] → read_framed Dhcp4 f room ≡ read_blocks Dhcp4 [] room
answer-absent room e = ap (λ (x : Framed). read_framed Dhcp4 x room) e

-- one or more: their data joined
pub answer-joined : (source : List ℕ) (room : ℕ) {f : Framed} (bs : List (List ℕ)) → f ≡ framed bs → 0 < length bs → source ≡ flat bs
    → read_framed Dhcp4 f room ≡ read_blocks Dhcp4 (source ∷ []) room
answer-joined source room [] e h q = absurd (omega arith)
answer-joined source room (b ∷ bs) e h q =
    ap (λ (x : Framed). read_framed Dhcp4 x room) e ∙ ap (λ (l : List ℕ). read_blocks Dhcp4 (l ∷ []) room) (sym q)

-- several: what `join` wrote at the front of its buffer
module _ (area l l' : List ℕ) (n : ℕ) (j : Joins (frame Dhcp4 area) l (Ok n) l') where
  many-wrote : (bs : List (List ℕ)) × (frame Dhcp4 area ≡ framed bs) × Wrote 0 (flat bs) l n l'
  many-wrote = joins-whole (frame Dhcp4 area) l l' n j

  many-front : take n l' ≡ flat many-wrote.0
  unfolding over
  many-front = ap (take n) many-wrote.2.laid ∙ take_at (flat many-wrote.0) _ n (omega (arith, many-wrote.2.next))

  pub many-room : n ≤ length l'
  many-room = let w = many-wrote.2 in omega (arith, w.room, w.next, ap length w.laid, over-length 0 (flat many-wrote.0) l w.room)

  pub many-length : length (take n l') ≡ n
  many-length = omega (arith, ap length many-front, many-wrote.2.next)

  pub answer-many : (room : ℕ) → Several (frame Dhcp4 area) → read_framed Dhcp4 (frame Dhcp4 area) room ≡ read_blocks Dhcp4 (take n l' ∷ []) room
  answer-many room g =
      let several : 2 ≤ length many-wrote.0 = subst Several many-wrote.1 g refl in
      answer-joined (take n l') room many-wrote.0 many-wrote.1 (omega arith) many-front

-- ---- the answer by a tally, test by test

module _ (c : Carrier) (source : List ℕ) (t : Tally) (room : ℕ) where
  pub answer-records : t.held.more ≡ true → answer_of c source t room ≡ refuse refusal.records
  unfolding answer_of
  answer-records m = rw m

  pub answer-room : t.held.more ≡ false → room < t.held.size → answer_of c source t room ≡ refuse refusal.room
  unfolding answer_of
  answer-room m h = rw (m, lt-ltb room t.held.size h)

  pub answer-done : t.held.more ≡ false → t.held.size ≤ room
      → answer_of c source t room
      ≡ done (record {
        sheet = sheet_of c (in_order (records_at c source t.held.slots));
        found = t.found;
        discarded = t.discarded;
        fault = t.first.fault;
        place = t.first.place;
      })
  unfolding answer_of
  answer-done m h = rw (m, le-ltb room t.held.size h)

-- ---- 1 and 2

module _ (n : ℕ) (s : List ℕ) (room : ℕ) where
  pub read-unknown : chosen_of n ≡ None → read_of n s room ≡ refuse refusal.carrier
  unfolding read_of
  read-unknown e = ap (λ (k : Option Carrier). read_chosen k s room) e

  module _ {c : Carrier} (e : chosen_of n ≡ Some c) where
    known : read_of n s room ≡ read_area c s room
    unfolding read_of
    known = ap (λ (k : Option Carrier). read_chosen k s room) e

    pub read-long : limit.input < length s → read_of n s room ≡ refuse refusal.input
    read-long h = known ∙ rw (lt-ltb limit.input (length s) h)

    pub read_known : length s ≤ limit.input → read_of n s room ≡ read_framed c (frame c s) room
    read_known h = known ∙ rw (le-ltb limit.input (length s) h)

-- ---- what the call gives back

-- the same answer gives the same
pub reads_as : {a b : Answer} {out out' : List ℕ} {r : Reading} → a ≡ b → Reads b out r out' → Reads a out r out'
reads_as {a} {b} {out} {out'} {r} e g = subst⁻¹ (λ (x : Answer). Reads x out r out') e g

-- and so does the same buffer
pub reads-from : (f : ℕ → Answer) {out out₀ out' : List ℕ} {r : Reading} → out ≡ out₀ → Reads (f (length out)) out r out' → Reads (f (length out₀)) out₀ r out'
reads-from f {out} {out₀} {out'} {r} e g = subst (λ (l : List ℕ). Reads (f (length l)) l r out') e g

-- a refusal
pub reads-refused : {a : Answer} {k : ℕ} {r : Reading} (out : List ℕ) → a ≡ refuse k → r ≡ told (refuse k) → Reads a out r out
reads-refused out e n = reads_as e (record { numbers = n; leaves = refl })

-- a sheet at the front of the buffer
pub reads-done : {a : Answer} {d : Done} {n : ℕ} {out out' : List ℕ} → a ≡ done d → Wrote 0 d.sheet out n out'
    → Reads a out (record { number = 0; length = n; found = d.found; discarded = d.discarded; fault = d.fault; place = d.place }) out'
reads-done {a} {d} e w =
    reads_as e
    (record {
      numbers = ap (λ (n : ℕ). record { number = 0; length = n; found = d.found; discarded = d.discarded; fault = d.fault; place = d.place }) (w.next ∙ zero-add (length d.sheet));
      leaves = w.laid;
    })

-- what it wrote fits its buffer, which keeps its length
pub reads-fits : (a : Answer) {out out' : List ℕ} {r : Reading} → Reads a out r out' → length out' ≡ length out → r.length ≤ length out'
reads-fits a {out} {out'} {r} g e = rw (g.numbers, e) (go a g.leaves)
  where
    go : (a : Answer) → out' ≡ left a out → (told a).length ≤ length out
    go (refuse k) l = omega arith
    go (done d) l = over-fits d.sheet out (sym (ap length l) ∙ e)
