-- The run that is shortened is the one that RFC 5952 §4.2 asks for: a run of zeros, with none longer, the first where several are as
-- long, so that the fields next to it are not zero; and none where no two zeros stand side by side. Assumes nothing.
use Rattle.std.specs.Prelude.{◌≡◌, refl, Bool, true, false, cond, ◌⊎◌, List, [], ◌∷◌, ℕ, zero, suc, ◌+◌, ◌-◌, ◌≤◌, ◌<◌, eqb, length, get_or, drop}
use Rattle.std.proofs.Common.{ap, inl, inr, ⊎_elim, add-zero, zero-add, add-suc, suc-add, arith, eqb-true, length-drop}
use Rattle.std.proofs.Math.Nat.{sub-zero}
use Rattle.std.proofs.lemmas.Bool.{eqb-false}
use Rattle.octets.specs.Cases.{by_less}
use Rattle.ips.specs.declared.Run.{Run}
use Rattle.ips.specs.Ips.{zeros_ahead, run, longer, longest_from, shortening, run_of}
use Rattle.ips.specs.Claims.{Zeros, Longest}

-- ---- a run, one field further in

zeros-suc : {f s n : ℕ} {fs : List ℕ} → Zeros fs s n → Zeros (f ∷ fs) (suc s) n
zeros-suc {f} {s} {n} z = record { inside = omega (arith, z.inside); zero = λ i h. rw (suc-add s i) (z.zero i h) }

zeros-pred : {f s n : ℕ} {fs : List ℕ} → Zeros (f ∷ fs) (suc s) n → Zeros fs s n
zeros-pred {f} {s} {n} z = record { inside = omega (arith, z.inside); zero = λ i h. rw (suc-add s i) at (z.zero i h) }

-- ---- the zeros at the front

ahead-zeros : (fs : List ℕ) → Zeros fs 0 (zeros_ahead fs)
unfolding zeros_ahead
ahead-zeros [] = record { inside = omega arith; zero = λ i h. absurd (omega arith) }
ahead-zeros (f ∷ fs) = go (eqb f 0) refl (ahead-zeros fs)
  where
    go : (b : Bool) → eqb f 0 ≡ b → Zeros fs 0 (zeros_ahead fs) → Zeros (f ∷ fs) 0 (cond b (zeros_ahead fs + 1) 0)
    go false t z = record { inside = omega arith; zero = λ i h. absurd (omega arith) }
    go true t z = record { inside = omega (arith, z.inside); zero = at }
      where
        at : (i : ℕ) → i < zeros_ahead fs + 1 → get_or (f ∷ fs) (0 + i) 0 ≡ 0
        at zero h = eqb-true _ _ t
        at (suc i) h = rw (zero-add (suc i)) (rw (zero-add i) at (z.zero i (omega arith)))

ahead-most : (fs : List ℕ) (m : ℕ) → Zeros fs 0 m → m ≤ zeros_ahead fs
unfolding zeros_ahead
ahead-most [] m z = omega (arith, z.inside)
ahead-most (f ∷ fs) zero z = omega arith
ahead-most (f ∷ fs) (suc m) z = go (eqb f 0) refl (ahead-most fs m)
  where
    go : (b : Bool) → eqb f 0 ≡ b → (Zeros fs 0 m → m ≤ zeros_ahead fs) → suc m ≤ cond b (zeros_ahead fs + 1) 0
    go false t ih = absurd (eqb-false _ _ t (z.zero 0 (omega arith)))
    go true t ih =
        let tail : Zeros fs 0 m = record { inside = omega (arith, z.inside); zero = λ i h. rw (zero-add i) (rw (zero-add (suc i)) at (z.zero (suc i) (omega arith))) } in
        omega (arith, ih tail)

-- ---- the longest

-- where the run at the front is shorter than the longest after it, and where it is not
longest-after : {f s n : ℕ} {fs : List ℕ} → Longest fs s n → zeros_ahead (f ∷ fs) < n → Longest (f ∷ fs) (suc s) n
longest-after {f} {s} {n} {fs} l h = record { zeros = zeros-suc l.zeros; most = most; first = first }
  where
    most : (t m : ℕ) → Zeros (f ∷ fs) t m → m ≤ n
    most zero m z = omega (arith, ahead-most (f ∷ fs) m z)
    most (suc t) m z = l.most t m (zeros-pred z)

    first : (t : ℕ) → Zeros (f ∷ fs) t n → suc s ≤ t
    first zero z = absurd (omega (arith, ahead-most (f ∷ fs) n z))
    first (suc t) z = omega (arith, l.first t (zeros-pred z))

longest-ahead : {f s n : ℕ} {fs : List ℕ} → Longest fs s n → n ≤ zeros_ahead (f ∷ fs) → Longest (f ∷ fs) 0 (zeros_ahead (f ∷ fs))
longest-ahead {f} {s} {n} {fs} l h = record { zeros = ahead-zeros (f ∷ fs); most = most; first = λ t z. omega arith }
  where
    most : (t m : ℕ) → Zeros (f ∷ fs) t m → m ≤ zeros_ahead (f ∷ fs)
    most zero m z = ahead-most (f ∷ fs) m z
    most (suc t) m z = omega (arith, l.most t m (zeros-pred z))

-- r is the longest run of fields of which the first has index i
abbrev From : ℕ → List ℕ → Run → Type 0
From i fs r = (i ≤ r.start) × Longest fs (r.start - i) r.count

longest-from : (i : ℕ) (fs : List ℕ) → From i fs (longest_from i fs)
unfolding longest_from
longest-from i [] =
    let e : i - i ≡ 0 = omega arith in
    let z : Zeros [] 0 0 = record { inside = omega arith; zero = λ i h. absurd (omega arith) } in
    (omega arith, rw e (record { zeros = z; most = λ t m y. omega (arith, y.inside); first = λ t y. omega arith }))
longest-from i (f ∷ fs) = go (longest_from (i + 1) fs) (longest-from (i + 1) fs)
  where
    go : (q : Run) → From (i + 1) fs q → From i (f ∷ fs) (longer (run i (zeros_ahead (f ∷ fs))) q)
    go q h =
        by_less (From i (f ∷ fs)) (zeros_ahead (f ∷ fs)) q.count q (run i (zeros_ahead (f ∷ fs)))
        (λ t. let e : q.start - i ≡ suc (q.start - (i + 1)) = omega (arith, h.0) in (omega (arith, h.0), rw e (longest-after h.1 t)))
        (λ t. let e : i - i ≡ 0 = omega arith in (omega arith, rw e (longest-ahead h.1 t)))

-- ---- the run that is shortened

by_count : (P : Run → Type 0) (r : Run) → (r.count < 2 → P (run 0 0)) → (2 ≤ r.count → P r) → P (shortening r)
by_count P r = by_less P r.count 2 (run 0 0) r

longest-of : (fs : List ℕ) → Longest fs (longest_from 0 fs).start (longest_from 0 fs).count
longest-of fs = rw (sub-zero (longest_from 0 fs).start) at (longest-from 0 fs).1

-- there is none, and no two zeros stand side by side; or there is the longest
pub none-or-longest : (fs : List ℕ)
    → ((run_of fs ≡ run 0 0) × ((t m : ℕ) → Zeros fs t m → m < 2)) ⊎ ((2 ≤ (run_of fs).count) × Longest fs (run_of fs).start (run_of fs).count)
unfolding run_of
none-or-longest fs = by_count (λ r. ((r ≡ run 0 0) × ((t m : ℕ) → Zeros fs t m → m < 2)) ⊎ ((2 ≤ r.count) × Longest fs r.start r.count)) (longest_from 0 fs)
    (λ h. inl (refl, λ t m z. omega (arith, (longest-of fs).most t m z)))
    (λ h. inr (h, longest-of fs))

-- what is shortened has at least two fields, and is the longest run
pub run-longest : (fs : List ℕ) → ((run_of fs).count ≡ 0 → ⊥) → (2 ≤ (run_of fs).count) × Longest fs (run_of fs).start (run_of fs).count
run-longest fs h = ⊎_elim (λ n. absurd (h (ap (λ (r : Run). r.count) n.0))) (λ l. l) (none-or-longest fs)

-- where nothing is shortened, no two zeros stand side by side
pub run_none : (fs : List ℕ) → (run_of fs).count ≡ 0 → (t m : ℕ) → Zeros fs t m → m < 2
run_none fs e = ⊎_elim (λ n. n.1) (λ l. absurd (omega (arith, l.0))) (none-or-longest fs)

-- the run lies within the fields
pub run_inside : (fs : List ℕ) → (run_of fs).start + (run_of fs).count ≤ length fs
run_inside fs = ⊎_elim (λ n. rw n.0 (omega arith)) (λ l. l.1.zeros.inside) (none-or-longest fs)

-- ---- the longest run is whole, and is the only one

-- the field before it is not zero, and neither is the one after it
pub not-before : {s n : ℕ} {fs : List ℕ} → Longest fs (suc s) n → get_or fs s 0 ≡ 0 → ⊥
not-before {s} {n} {fs} l e = omega (arith, l.most s (suc n) (record { inside = omega (arith, l.zeros.inside); zero = at }))
  where
    at : (i : ℕ) → i < suc n → get_or fs (s + i) 0 ≡ 0
    at zero h = rw (add-zero s) e
    at (suc i) h = rw (add-suc s i) (rw (suc-add s i) at (l.zeros.zero i (omega arith)))

pub longest-unique : {s n t m : ℕ} {fs : List ℕ} → Longest fs s n → Longest fs t m → (s ≡ t) × (n ≡ m)
longest-unique {s} {n} {t} {m} l k =
    let e : n ≡ m = omega (arith, l.most t m k.zeros, k.most s n l.zeros) in
    (omega (arith, l.first t (rw e k.zeros), k.first s (rw e at l.zeros)), e)

-- so the longest run, if it has two fields, is what is shortened
pub run_is : {s n : ℕ} {fs : List ℕ} → 2 ≤ n → Longest fs s n → run_of fs ≡ run s n
run_is {s} {n} {fs} h l = ⊎_elim
    (λ k. absurd (omega (arith, k.1 s n l.zeros)))
    (λ k. let e = longest-unique k.1 l in rw (← e.0, ← e.1))
    (none-or-longest fs)

-- no more zeros stand from an index on than fields
pub ahead-few : (fs : List ℕ) (i : ℕ) → zeros_ahead (drop i fs) ≤ length fs - i
ahead-few fs i = omega (arith, (ahead-zeros (drop i fs)).inside, length-drop i fs)
