-- One character more: from each place of a line to the next, and to what the lines show. Assumes nothing.
use Rattle.std.specs.Prelude.{◌≡◌, Bool, List, [], ◌∷◌, ◌++◌, ℕ, ◌+◌, ◌≤◌, get_or}
use Rattle.std.proofs.Common.{sym, subst, arith}
use Rattle.std.proofs.Math.Seq.{append_snoc}
use Rattle.inputs.specs.Why as why
use Rattle.dumps.specs.declared.Style.{Style}
use Rattle.dumps.specs.State.{State}
use Rattle.dumps.specs.Mode as mode
use Rattle.dumps.specs.States as states
use Rattle.dumps.specs.States.{moved}
use Rattle.dumps.specs.Dumps.{read_from}
use Rattle.dumps.specs.Shows.{Lines}
use Rattle.dumps.specs.Steps.{Result, step-bad, step-on}
use Rattle.dumps.specs.Places.{Place, Rests}

module _ (f : Style) (size m : ℕ) (bs : List ℕ) where
  -- from any place, the rest of the text shows the octets
  abbrev pub Claim : List ℕ → Type 0
  Claim xs = (stood : Bool) (s : State) (n i : ℕ) (out pre os last : List ℕ) (star : Bool) (p : Place f stood s n out pre os last star) → (xs ≡ [] → Rests p)
      → Result (read_from f s n size i out xs) m bs → Lines f stood star os last (pre ++ xs) bs

-- the character x comes next; after it the rest is shown, and only a line break is the last
pub record Next (f : Style) (stood : Bool) (size m : ℕ) (bs : List ℕ) (x : ℕ) (xs : List ℕ) (s : State) (n i : ℕ)
    (out pre os last : List ℕ) (star : Bool) : Type 0 where
  pub on : Claim f size m bs xs
  pub end : xs ≡ [] → x ≡ 10
  pub result : Result (read_from f s n size i out (x ∷ xs)) m bs

-- the state then
abbrev pub then : Style → State → ℕ → ℕ → List ℕ → State
then f s x n out = moved f x n (get_or out s.beside 0) s

module _ {f : Style} {size m : ℕ} {bs : List ℕ} {x : ℕ} {xs : List ℕ} {s : State} {n i : ℕ} {out pre os last : List ℕ} {stood star : Bool}
    (at : Next f stood size m bs x xs s n i out pre os last star) where
  pub bad : (t : State) → t ≡ then f s x n out → (t.why ≡ 0 → ⊥) → Lines f stood star os last (pre ++ (x ∷ xs)) bs
  bad t e h = absurd (step-bad f s x n size i out xs m bs at.result t e h)

  pub bad-form : states.but why.form s ≡ then f s x n out → Lines f stood star os last (pre ++ (x ∷ xs)) bs
  bad-form e = bad (states.but why.form s) e (λ z. absurd (omega arith))

  pub bad-column : states.but why.column s ≡ then f s x n out → Lines f stood star os last (pre ++ (x ∷ xs)) bs
  bad-column e = bad (states.but why.column s) e (λ z. absurd (omega arith))

  -- the line goes on
  pub line_on : (t : State) (k : ℕ) (o : List ℕ) (p : Place f stood t k o (pre ++ (x ∷ [])) os last star) → (xs ≡ [] → Rests p)
      → Result (read_from f t k size (i + 1) o xs) m bs → Lines f stood star os last (pre ++ (x ∷ xs)) bs
  line_on t k o p c q =
      subst (λ (l : List ℕ). Lines f stood star os last l bs) (append_snoc pre x xs) (at.on stood t k (i + 1) o (pre ++ (x ∷ [])) os last star p c q)

  pub moves-to : (t : State) → t ≡ then f s x n out → t.why ≡ 0 → t.upto ≤ n → (t.mode ≡ mode.low → ⊥)
      → Result (read_from f t n size (i + 1) out xs) m bs
  moves-to t e w u l = step-on f s x n size i out xs m bs at.result t e w u l

  pub keep : (t : State) → t ≡ then f s x n out → t.why ≡ 0 → t.upto ≤ n → (t.mode ≡ mode.low → ⊥) → (x ≡ 10 → ⊥)
      → Place f stood t n out (pre ++ (x ∷ [])) os last star → Lines f stood star os last (pre ++ (x ∷ xs)) bs
  keep t e w u l b p = line_on t n out p (λ z. absurd (b (at.end z))) (moves-to t e w u l)

  -- a line break
  pub broken-at : x ≡ 10 → Lines f stood star os last (pre ++ (10 ∷ xs)) bs → Lines f stood star os last (pre ++ (x ∷ xs)) bs
  broken-at e l = subst (λ (y : ℕ). Lines f stood star os last (pre ++ (y ∷ xs)) bs) (sym e) l
