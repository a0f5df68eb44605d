-- A list's characters taken one after the other from any state, and the octets that they complete: what reading is, without a buffer. Assumes nothing.
use Rattle.std.specs.Prelude.{◌≡◌, refl, Bool, true, false, cond, List, ◌++◌, ℕ, ◌+◌, eqb, leb, length, set}
use Rattle.std.proofs.Common.{ap, arith, eqb-true, leb-true, leb-false}
use Rattle.std.proofs.lemmas.Bool.{eqb-false}
use Rattle.inputs.specs.Read.{Bad, Long}
use Rattle.groups.specs.declared.Kind.{Kind}
use Rattle.groups.specs.Turn as turns
use Rattle.groups.specs.State.{State}
use Rattle.groups.specs.States.{moved}
use Rattle.groups.specs.Groups.{After, after, take_of, Ended, ended, onward, read_from}
use Rattle.groups.specs.Filling.{Machine, given, Step, ends, passes, lays, Reader}
use Rattle.groups.specs.Filling as filling

-- a list of a kind
abbrev pub machine : Kind → Machine
machine f = record { State = State; move = λ s x. moved f x s; Good = λ s. s.why ≡ 0; complete = λ s. s.complete; octet = λ s. s.octet }

-- from s on, the characters complete the octets bs, and none is out of place
abbrev pub Runs : Kind → State → List ℕ → List ℕ → Type 0
Runs f s xs bs = filling.Runs (machine f) s xs bs

-- the same, after a character that led to s
abbrev pub RunsOn : Kind → State → List ℕ → List ℕ → Type 0
RunsOn f s xs bs = (s.why ≡ 0) × (cs : List ℕ) × Runs f s xs cs × (bs ≡ given (machine f) s ++ cs)

-- ---- it is what reading is

module _ (f : Kind) (t : State) (n i : ℕ) (out xs : List ℕ) where
  -- what comes of a character that leads to t, by the three tests
  abbrev picked : Bool → Bool → Bool → After
  picked b c d =
      cond b
      (cond c (cond d (after turns.Long out) (after (turns.Go t (n + 1)) (set out n t.octet))) (after (turns.Go t n) out))
      (after (turns.Bad t.why) out)

  abbrev going : After → Ended
  going a = onward a.turn i a.out (λ u k. read_from f u k (i + 1) a.out xs)

  step : (b : Bool) → eqb t.why 0 ≡ b → (c : Bool) → t.complete ≡ c → (d : Bool) → leb (length out) n ≡ d
      → Step (machine f) (read_from f) ended t n i out xs (going (picked b c d))
  step true b false c d r = passes (eqb-true t.why 0 b) c refl
  step true b true c false r = lays (eqb-true t.why 0 b) c (leb-false (length out) n r) refl
  step true b true c true r = ends {r = Long} (λ m e. let z : ◌≡◌ {A = ℕ} 0 1 = cc in absurd (omega arith)) (λ g. (c, leb-true (length out) n r)) refl
  step false b c q d r =
      ends {r = Bad i t.why} (λ m e. let z : ◌≡◌ {A = ℕ} 0 1 = cc in absurd (omega arith)) (λ g. absurd (eqb-false t.why 0 b g)) refl

pub reader : (f : Kind) → Reader (machine f) (read_from f) ended
unfolding read_from take_of
reader f =
    record {
      same = λ e. (ap (λ (x : Ended). x.read) e, ap (λ (x : Ended). x.out) e);
      none = λ s n i out. refl;
      step = λ s x n i out xs.
          let t = moved f x s in
          step f t n i out xs (eqb t.why 0) refl t.complete refl (leb (length out) n) refl;
    }
