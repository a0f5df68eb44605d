-- The walk of any automaton by a step; what holds of the octets that it takes, and of those at which it stops, by what holds of each
-- step. Assumes nothing.
use Rattle.std.specs.Prelude.{◌≡◌, true, false, ℕ, ◌+◌, length, Ok, Err}
use Rattle.std.proofs.Math.Path.{refl}
use Rattle.std.proofs.Common.{sym, ap, ◌∙◌, arith}
use Rattle.std.proofs.Math.Bool.{cond}
use mathlib.Core.List.{List, [], ◌∷◌, ◌++◌}
use Rattle.octets.specs.Cases.{by-test}
use Rattle.names.specs.Automaton.{Move, stop, go, Checked, Automaton, on, walk}

pub not_good : {X : Type 0} {p : ℕ} → ◌≡◌ {A = Checked} (Err p) (Ok tt) → X
not_good {X} {p} e = let z : ◌≡◌ {A = ℕ} 0 1 = cc in absurd (omega arith)

module _ {S : Type 0} (a : Automaton S) where
  module _ (st : S) (at x : ℕ) (xs : List ℕ) where
    pub goes : {st' : S} → a.step st at x ≡ go st' → walk a st at (x ∷ xs) ≡ walk a st' (at + 1) xs
    unfolding walk
    goes e = rw e

    pub stops : a.step st at x ≡ stop → walk a st at (x ∷ xs) ≡ Err at
    unfolding walk
    stops e = rw e

  module _ (st : S) (at : ℕ) where
    pub ends-good : a.ends st ≡ true → walk a st at [] ≡ Ok tt
    unfolding walk
    ends-good e = rw e

    pub ends-bad : a.ends st ≡ false → walk a st at [] ≡ Err at
    unfolding walk
    ends-bad e = rw e

  -- some octets that end what is walked
  abbrev pub Ending : S → ℕ → Type 0
  Ending st at = (t : List ℕ) × (walk a st at t ≡ Ok tt)

  -- the walk over xs from the place `at` on stops at p: at the end of front, where something else could follow, and whatever follows
  -- the octet there is refused too
  pub record StopsAt (st : S) (at : ℕ) (xs : List ℕ) (p : ℕ) : Type 0 where
    pub front : List ℕ
    pub back : List ℕ
    pub is : xs ≡ front ++ back
    pub place : p ≡ at + length front
    pub end : List ℕ
    pub goes_on : walk a st at (front ++ end) ≡ Ok tt
    pub halts : (z : ℕ) (zs t : List ℕ) → back ≡ z ∷ zs → walk a st at (front ++ (z ∷ t)) ≡ Err p

  at_end : (st : S) (at p : ℕ) → Ending st at → ◌≡◌ {A = Checked} (Err at) (Err p) → StopsAt st at [] p
  at_end st at p f e =
      let q : at ≡ p = cc in
      record {
        front = [];
        back = [];
        is = refl;
        place = omega arith;
        end = f.0;
        goes_on = f.1;
        halts = λ z zs t b. let k = ap length b in absurd (omega arith);
      }

  at-stop : (st : S) (at x p : ℕ) (xs : List ℕ) → Ending st at → a.step st at x ≡ stop → ◌≡◌ {A = Checked} (Err at) (Err p) → StopsAt st at (x ∷ xs) p
  at-stop st at x p xs f s e =
      let q : at ≡ p = cc in
      record {
        front = [];
        back = x ∷ xs;
        is = refl;
        place = omega arith;
        end = f.0;
        goes_on = f.1;
        halts = λ z zs t b. let k : x ≡ z = cc in stops st at z t (ap (λ (w : ℕ). a.step st at w) (sym k) ∙ s) ∙ e;
      }

  at-go : (st st' : S) (at x p : ℕ) (xs : List ℕ) → a.step st at x ≡ go st' → StopsAt st' (at + 1) xs p → StopsAt st at (x ∷ xs) p
  at-go st st' at x p xs s r =
      let h = r.place in
      record {
        front = x ∷ r.front;
        back = r.back;
        is = ap (λ (l : List ℕ). x ∷ l) r.is;
        place = omega arith;
        end = r.end;
        goes_on = goes st at x (r.front ++ r.end) s ∙ r.goes_on;
        halts = λ z zs t b. goes st at x (r.front ++ (z ∷ t)) s ∙ r.halts z zs t b;
      }

  -- Valid: what holds of a state, the octet before the place and the place. Claim: what holds of the octets from there on, if they are taken
  module _ (Valid : S → ℕ → ℕ → Type 0) (Claim : S → ℕ → ℕ → List ℕ → Type 0) where
    -- what is shown of each move of an octet x with xs after it: where it goes on, Valid holds, and the claim of xs gives that of x and xs
    abbrev pub After : S → ℕ → ℕ → ℕ → List ℕ → Move S → Type 0
    After st y at x xs stop = Unit
    After st y at x xs (go st') = Valid st' x (at + 1) × (Claim st' x (at + 1) xs → Claim st y at (x ∷ xs))

    -- what is taken
    on-taken : (st : S) (y at x : ℕ) (xs : List ℕ) (m : Move S) → After st y at x xs m
        → ((st' : S) → Valid st' x (at + 1) → walk a st' (at + 1) xs ≡ Ok tt → Claim st' x (at + 1) xs)
        → on m (Err at) (λ st'. walk a st' (at + 1) xs) ≡ Ok tt → Claim st y at (x ∷ xs)
    on-taken st y at x xs stop f ih e = not_good e
    on-taken st y at x xs (go st') f ih e = f.1 (ih st' f.0 e)

    -- where it stops
    on-stopped : (st : S) (y at x p : ℕ) (xs : List ℕ) (m : Move S) → a.step st at x ≡ m → After st y at x xs m → Ending st at
        → ((st' : S) → Valid st' x (at + 1) → walk a st' (at + 1) xs ≡ Err p → StopsAt st' (at + 1) xs p)
        → on m (Err at) (λ st'. walk a st' (at + 1) xs) ≡ Err p → StopsAt st at (x ∷ xs) p
    on-stopped st y at x p xs stop s f end ih e = at-stop st at x p xs end s e
    on-stopped st y at x p xs (go st') s f end ih e = at-go st st' at x p xs s (ih st' f.0 e)

    module _ (stepped : (st : S) (y at x : ℕ) (xs : List ℕ) → Valid st y at → After st y at x xs (a.step st at x)) where
      module _ (ended : (st : S) (y at : ℕ) → Valid st y at → a.ends st ≡ true → Claim st y at []) where
        pub taken : (xs : List ℕ) (st : S) (y at : ℕ) → Valid st y at → walk a st at xs ≡ Ok tt → Claim st y at xs
        unfolding walk
        taken [] st y at v e =
            by-test (a.ends st) (λ b. cond b (Ok tt) (Err at) ≡ Ok tt → Claim st y at []) (λ t _. ended st y at v t) (λ _ g. not_good g) e
        taken (x ∷ xs) st y at v e = on-taken st y at x xs (a.step st at x) (stepped st y at x xs v) (λ st'. taken xs st' x (at + 1)) e

      module _ (ending : (st : S) (y at : ℕ) → Valid st y at → Ending st at) where
        pub stopped : (xs : List ℕ) (st : S) (y at p : ℕ) → Valid st y at → walk a st at xs ≡ Err p → StopsAt st at xs p
        unfolding walk
        stopped [] st y at p v e =
            by-test (a.ends st) (λ b. cond b (Ok tt) (Err at) ≡ Err p → StopsAt st at [] p)
            (λ _ g. not_good (sym g))
            (λ _ g. at_end st at p (ending st y at v) g)
            e
        stopped (x ∷ xs) st y at p v e =
            on-stopped st y at x p xs (a.step st at x) refl (stepped st y at x xs v) (ending st y at v) (λ st'. λ w. stopped xs st' x (at + 1) p w) e
