-- Readers that take characters one after the other and lay the octets that these complete into a buffer: such a reading is told by the octets alone.
-- Assumes nothing.
use Rattle.std.specs.Prelude.{◌≡◌, refl, Bool, true, false, cond, List, [], ◌∷◌, ◌++◌, ℕ, ◌+◌, ◌≤◌, ◌<◌, length, take, set}
use Rattle.std.proofs.Common.{sym, ap, ◌∙◌, append-nil, append_assoc, add-zero, add-one, arith, length-set, take-suc-set}
use Rattle.octets.specs.Over.{over}
use Rattle.octets.specs.OverLaws.{over-nil, over-set, over-over}
use Rattle.inputs.specs.Read.{Read, Octets}

-- ---- without a buffer

-- how a character moves a state, which states are in order, and which octet one completes, if any
pub record Machine : Type 1 where
  pub State : Type 0
  pub move : State → ℕ → State
  pub Good : State → Type 0
  pub complete : State → Bool
  pub octet : State → ℕ

abbrev pub given : (M : Machine) → M.State → List ℕ
given M s = cond (M.complete s) (M.octet s ∷ []) []

-- from s on, the characters complete the octets bs, and each state is in order
abbrev pub Runs : (M : Machine) → M.State → List ℕ → List ℕ → Type 0
Runs M s [] bs = bs ≡ []
Runs M s (x ∷ xs) bs = M.Good (M.move s x) × (cs : List ℕ) × Runs M (M.move s x) xs cs × (bs ≡ given M (M.move s x) ++ cs)

-- the octets are determined
pub runs-one : (M : Machine) (xs : List ℕ) (s : M.State) {bs cs : List ℕ} → Runs M s xs bs → Runs M s xs cs → bs ≡ cs
runs-one M [] s p q = p ∙ sym q
runs-one M (x ∷ xs) s p q = p.3 ∙ ap (λ (l : List ℕ). given M (M.move s x) ++ l) (runs-one M xs (M.move s x) p.2 q.2) ∙ sym q.3

-- ---- with one

module _ (M : Machine) {E : Type 0} (read : M.State → ℕ → ℕ → List ℕ → List ℕ → E) (ended : Read → List ℕ → E) where
  -- what comes of a character, which leads to t: an end, as t is not in order or its octet has no room; or on, and the octet is laid, if there is one
  pub data Step (t : M.State) (n i : ℕ) (out xs : List ℕ) (now : E) : Type 0 where
    ends : {r : Read} → ((m : ℕ) → r ≡ Octets m → ⊥) → (M.Good t → (M.complete t ≡ true) × (length out ≤ n)) → now ≡ ended r out → Step t n i out xs now
    passes : M.Good t → M.complete t ≡ false → now ≡ read t n (i + 1) out xs → Step t n i out xs now
    lays : M.Good t → M.complete t ≡ true → n < length out → now ≡ read t (n + 1) (i + 1) (set out n (M.octet t)) xs → Step t n i out xs now

  pub record Reader : Type 0 where
    pub same : {r q : Read} {l k : List ℕ} → ended r l ≡ ended q k → (r ≡ q) × (l ≡ k)
    pub none : (s : M.State) (n i : ℕ) (out : List ℕ) → read s n i out [] ≡ ended (Octets n) out
    pub step : (s : M.State) (x n i : ℕ) (out xs : List ℕ) → Step (M.move s x) n i out xs (read s n i out (x ∷ xs))

  module _ (R : Reader) where
    -- the first m octets of out': the first k of l, and those that are completed
    abbrev Ran : ℕ → List ℕ → ℕ → List ℕ → (List ℕ → Type 0) → Type 0
    Ran k l m out' P = (bs : List ℕ) × P bs × (m ≡ k + length bs) × (take m out' ≡ take k l ++ bs)

    pub read-runs : (xs : List ℕ) (s : M.State) (n i : ℕ) (out : List ℕ) (m : ℕ) (out' : List ℕ) → n ≤ length out
        → read s n i out xs ≡ ended (Octets m) out'
        → (bs : List ℕ) × Runs M s xs bs × (m ≡ n + length bs) × (take m out' ≡ take n out ++ bs)
    read-runs [] s n i out m out' h e =
        let q = R.same (sym (R.none s n i out) ∙ e) in
        let o = q.0 in
        let k : n ≡ m = cc in
        ([], refl, omega arith, rw (sym k, sym q.1) (sym (append-nil (take n out))))
    read-runs (x ∷ xs) s n i out m out' h e =
        go (λ k l. read-runs xs (M.move s x) k (i + 1) l m out') (R.step s x n i out xs)
      where
        go : ((k : ℕ) (l : List ℕ) → k ≤ length l → read (M.move s x) k (i + 1) l xs ≡ ended (Octets m) out' → Ran k l m out' (Runs M (M.move s x) xs))
            → Step (M.move s x) n i out xs (read s n i out (x ∷ xs))
            → Ran n out m out' (Runs M s (x ∷ xs))
        go next (ends k z q) = absurd (k m (R.same (sym q ∙ e)).0)
        go next (passes g c q) =
            let t = M.move s x in
            let r = next n out h (sym q ∙ e) in
            let v : given M t ≡ [] = rw c in
            (given M t ++ r.0, (g, r.0, r.1, refl), rw v r.2, rw v r.3)
        go next (lays g c l q) =
            let t = M.move s x in
            let o = M.octet t in
            let r = next (n + 1) (set out n o) (simp length-set (omega arith)) (sym q ∙ e) in
            let v : given M t ≡ o ∷ [] = rw c in
            let w : take (n + 1) (set out n o) ≡ take n out ++ (o ∷ []) = rw (add-one n) (take-suc-set out n o l) in (
              given M t ++ r.0,
              (g, r.0, r.1, refl),
              rw v (omega (arith, r.2)),
              rw v (r.3 ∙ ap (λ (y : List ℕ). y ++ r.0) w ∙ append_assoc (take n out) (o ∷ []) r.0),
            )

    pub runs-read : (xs : List ℕ) (s : M.State) (n i : ℕ) (out bs : List ℕ) → Runs M s xs bs → n + length bs ≤ length out
        → read s n i out xs ≡ ended (Octets (n + length bs)) (over n bs out)
    runs-read [] s n i out bs r h = R.none s n i out ∙ rw r (rw (add-zero n, over-nil n out) refl)
    runs-read (x ∷ xs) s n i out bs r h = go (λ k l. runs-read xs (M.move s x) k (i + 1) l r.1 r.2) (R.step s x n i out xs)
      where
        given-none : M.complete (M.move s x) ≡ false → bs ≡ r.1
        given-none c = r.3 ∙ rw c refl

        given-one : M.complete (M.move s x) ≡ true → bs ≡ M.octet (M.move s x) ∷ r.1
        given-one c = r.3 ∙ rw c refl

        room : M.complete (M.move s x) ≡ true → n + 1 + length r.1 ≤ length out
        room c = let k : n + length (M.octet (M.move s x) ∷ r.1) ≤ length out = rw (given-one c) at h in omega arith

        go : ((k : ℕ) (l : List ℕ) → k + length r.1 ≤ length l
            → read (M.move s x) k (i + 1) l xs ≡ ended (Octets (k + length r.1)) (over k r.1 l))
            → Step (M.move s x) n i out xs (read s n i out (x ∷ xs))
            → read s n i out (x ∷ xs) ≡ ended (Octets (n + length bs)) (over n bs out)
        go next (ends k z q) = let y = z r.0 in let w = room y.0 in absurd (omega arith)
        go next (passes g c q) =
            let b = given-none c in
            let l : n + length r.1 ≤ length out = rw b at h in
            q ∙ next n out l ∙ rw b refl
        go next (lays g c l q) =
            let o = M.octet (M.move s x) in
            let b = given-one c in
            let k : n + 1 + length r.1 ≤ length (set out n o) = simp length-set (room c) in
            let w : over (n + 1) r.1 (set out n o) ≡ over n (o ∷ r.1) out =
            rw (over-set n o out l) (over-over n (o ∷ []) r.1 out (let u = room c in omega arith)) in
            let m : n + 1 + length r.1 ≡ n + length (o ∷ r.1) = omega arith in
            let e : ended (Octets (n + length (o ∷ r.1))) (over n (o ∷ r.1) out) ≡ ended (Octets (n + length bs)) (over n bs out) = rw b refl in
            q ∙ next (n + 1) (set out n o) k ∙ rw (w, m) e
