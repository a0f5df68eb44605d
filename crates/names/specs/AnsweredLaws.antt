-- The walk over the last octets of a buffer by a step, and its answer as a number and back. Assumes nothing.
use Rattle.std.specs.Prelude.{◌≡◌, refl, Bool, true, false, not, List, ◌∷◌, ℕ, ◌+◌, ◌-◌, ◌≤◌, ◌<◌, get_or, take, drop, Ok, Err}
use Rattle.std.proofs.Math.Path.{sym, ap}
use Rattle.std.proofs.Common.{◌∙◌, add-one, drop-cons, length-take-le, get_or-take, ne_eqb}
use native.Mathlib.Omega.{arith}
use Rattle.std.proofs.Math.ListN.{length, drop_of_length-le}
use Rattle.names.specs.Automaton.{stop, go, Automaton, walk, Checked}
use Rattle.names.specs.AutomatonLaws as laws
use Rattle.names.specs.Answered.{past, placed, named, answer_in}

module _ {S : Type 0} (a : Automaton S) (b : List ℕ) (n : ℕ) (fits : n ≤ length b) (left : ℕ) (st : S) where
  held : length (take n b) ≡ n
  held = length-take-le n b fits

  -- no octet is left
  module _ (z : left ≡ 0) where
    pub cut_short : a.ends st ≡ false → n ≡ answer_in a b n st left
    unfolding answer_in
    cut_short e =
        let q : n - left ≡ n = omega arith in
        let h = held in
        let k : length (take n b) ≤ n = omega arith in
        sym (rw (q, drop_of_length-le (take n b) k) (ap placed (laws.ends-bad a st n e)))

    pub ends_there : a.ends st ≡ true → past ≡ answer_in a b n st left
    unfolding answer_in
    ends_there e =
        let q : n - left ≡ n = omega arith in
        let h = held in
        let k : length (take n b) ≤ n = omega arith in
        sym (rw (q, drop_of_length-le (take n b) k) (ap placed (laws.ends-good a st n e)))

  -- an octet is left
  module _ (i : left ≤ n) (some : left ≡ 0 → ⊥) where
    abbrev at : ℕ
    at = n - left

    one_more : drop at (take n b) ≡ get_or b at 0 ∷ drop (at + 1) (take n b)
    one_more =
        let h = held in
        let k : at < length (take n b) = omega arith in
        drop-cons (take n b) at 0 k ∙ rw (add-one, get_or-take n b at 0 (omega arith))

    pub stops : a.step st at (get_or b at 0) ≡ stop → at ≡ answer_in a b n st left
    unfolding answer_in
    stops e = sym (rw one_more (ap placed (laws.stops a st at (get_or b at 0) (drop (at + 1) (take n b)) e)))

    pub goes : {st' : S} → a.step st at (get_or b at 0) ≡ go st' → answer_in a b n st left ≡ answer_in a b n st' (left - 1)
    unfolding answer_in
    goes {st'} e =
        let q : at + 1 ≡ n - (left - 1) = omega arith in
        rw one_more (ap placed (laws.goes a st at (get_or b at 0) (drop (at + 1) (take n b)) e)) ∙ ap (λ (k : ℕ). placed (walk a st' k (drop k (take n b)))) q

-- all of them are left
pub whole : {S : Type 0} (a : Automaton S) (b : List ℕ) (n : ℕ) (st : S) → answer_in a b n st n ≡ placed (walk a st 0 (take n b))
unfolding answer_in
whole a b n st = let z : n - n ≡ 0 = omega arith in rw z

-- the number gives the answer back
pub named_back : (r : Checked) → ((p : ℕ) → r ≡ Err p → p ≤ 256) → named (placed r) ≡ r
named_back (Ok tt) h = refl
named_back (Err p) h = let k = h p refl in simp (ne_eqb p past (omega arith))

-- past two octets, fewer are left
pub two-fewer : {t : ℕ} (left : ℕ) → (left ≡ 0 → ⊥) → left ≡ t → left - 1 - 1 < t
two-fewer left z r = omega arith

pub still-within : (left n : ℕ) → left ≤ n → left - 1 - 1 ≤ n
still-within left n i = omega arith

-- what a call told of a flag, and what a test told of the same flag
pub told : {a b v : Bool} → a ≡ b → a ≡ v → b ≡ v
told e f = sym e ∙ f

pub told-not : {a b : Bool} → a ≡ b → not a ≡ true → b ≡ false
told-not {a = true} e f = sym e ∙ ap not f
told-not {a = false} e f = sym e

pub told-not-not : {a b : Bool} → a ≡ b → not a ≡ false → b ≡ true
told-not-not {a = true} e f = sym e
told-not-not {a = false} e f = sym e ∙ ap not f
