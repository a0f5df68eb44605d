-- What the examination of a body tells of it, as both walks cite it: over blocks, and over the instances of joined data; and one slot more.
-- Assumes nothing.
use Rattle.std.proofs.Common.{◌≡◌, ◌≤◌, ◌<◌, ℕ, ◌+◌, Bool, List, [], ◌∷◌, ◌++◌, true, false, length, arith, Result, Ok, Err, ◌&&◌, refl, ap, ◌∙◌}
use Rattle.std.specs.Result.{MatchResult}
use Rattle.std.proofs.lemmas.Bool.{false≢true}
use Rattle.numbers.specs.Fault as fault
use Rattle.numbers.specs.Limit as limit
use Rattle.numbers.specs.declared.Fault.{Fault}
use Rattle.numbers.specs.declared.Fault.TheVariants.{Field, Priority, Name, Addresses, Limit, Dropped, Parameters, Hint, Value, Padding}
use Rattle.carriers.specs.declared.Carrier.{Carrier}
use Rattle.frames.specs.Step.{part}
use Rattle.frames.proofs.GatherLaws.{part_length}
use Rattle.judge.specs.declared.Flaw.{Flaw}
use Rattle.judge.specs.Place.{Judged, judged, place_from, from, flawed}
use Rattle.order.specs.declared.slots.Slot.{Slot}
use Rattle.order.specs.declared.slots.Slots.{Slots}
use Rattle.order.specs.Listed.{listed}
use Rattle.records.specs.declared.Examined.{Examined}
use Rattle.records.specs.Yielded.{outcome_of}
use Rattle.records.specs.Examined.{Verdict, verdict_in, examined_of, Clean}
use Rattle.reading.specs.declared.Held.{Held}
use Rattle.reading.specs.Tally.{slot_of, Seen, Grown}

-- a fault's number is never 0
pub fault-some : (k : Fault) → fault.number_of k ≡ 0 → ⊥
fault-some Field e = absurd (omega arith)
fault-some Priority e = absurd (omega arith)
fault-some Name e = absurd (omega arith)
fault-some Addresses e = absurd (omega arith)
fault-some Limit e = absurd (omega arith)
fault-some Dropped e = absurd (omega arith)
fault-some Parameters e = absurd (omega arith)
fault-some Hint e = absurd (omega arith)
fault-some Value e = absurd (omega arith)
fault-some Padding e = absurd (omega arith)

-- b is w with its place counted from n octets further back; what has w's fault and b's place is so too, from m octets where n is m
pub counted-back : (x b w : Flaw) {n m : ℕ} → flawed b ≡ from n (flawed w) → n ≡ m → fault.number_of x.fault ≡ fault.number_of w.fault → x.place ≡ b.place
    → flawed x ≡ from m (flawed w)
counted-back x b w e far same place =
    ap (λ (k : ℕ). judged k x.place) same
    ∙ ap (λ (q : ℕ). judged (fault.number_of w.fault) q)
    (place ∙ ap (λ (j : Judged). j.place) e ∙ ap (λ (i : ℕ). place_from i (fault.number_of w.fault) w.place) far)

module _ (c : Carrier) (source : List ℕ) (start end : ℕ) (low : start ≤ end) (high : end ≤ length source) where
  abbrev body : List ℕ
  body = part start end source

  pub seen_body : (r : Result Examined Flaw) → verdict_in r ≡ examined_of c (outcome_of c body) (verdict_in r).clean
      → MatchResult r (λ e. (e.priority < 65536) × (e.size ≤ limit.record_size) × (e.clean ≡ true → Clean c body)) (λ w. w.place ≤ length body)
      → Seen c source start end (verdict_in r)
  seen_body (Ok e) tells bounds =
      record { low = low; high = high; tells = tells; small = bounds.1; near = omega arith; clean = bounds.2 }
  seen_body (Err w) tells bounds = record {
    low = low;
    high = high;
    tells = tells;
    small = omega arith;
    near = omega (arith, bounds, part_length start end source high);
    clean = λ e. absurd (false≢true e);
  }

-- what is claimed of all and of one more
both : (all one : Bool) → (all && one) ≡ true → (all ≡ true) × (one ≡ true)
both true one e = (refl, e)
both false one e = absurd (false≢true e)

-- one slot more, which is that of a body
pub grown : (h : Held) (v : Verdict) (start end : ℕ) {x : Slot} {s : Slots}
    → (h.slots.count < 16) × (s.count ≡ h.slots.count + 1) × (listed s ≡ listed h.slots ++ (x ∷ [])) → x ≡ slot_of v start end
    → Grown h v start end s (h.clean && v.clean)
grown h v start end p e = record {
  room = p.0;
  count = p.1;
  list = p.2 ∙ ap (λ (x : Slot). listed h.slots ++ (x ∷ [])) e;
  claims = both h.clean v.clean;
}
