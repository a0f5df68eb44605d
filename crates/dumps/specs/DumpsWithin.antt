-- A text that is no dump leaves it within itself: at one of its characters, or at its end. Assumes nothing.
use Rattle.std.specs.Prelude.{◌≡◌, Bool, true, false, cond, List, [], ◌∷◌, ◌++◌, ℕ, ◌+◌, ◌≤◌, length}
use Rattle.std.proofs.Common.{subst, arith, length-append}
use Rattle.inputs.specs.Why as why
use Rattle.inputs.specs.Read.{Read, Octets, Bad, Long}
use Rattle.dumps.specs.declared.Style.{Style}
use Rattle.dumps.specs.Turn.{Turn}
use Rattle.dumps.specs.Turn as turns
use Rattle.dumps.specs.State.{State}
use Rattle.dumps.specs.States.{begun}
use Rattle.dumps.specs.Dumps.{take_of, ended, end_of, onward, read_from, read_of}

abbrev Inside : ℕ → Read → Type 0
Inside k (Octets n) = Unit
Inside k (Bad at w) = at ≤ k
Inside k Long = Unit

inside-end : (k : ℕ) (s : State) (n : ℕ) (out : List ℕ) → Inside k (end_of s n k out).read
inside-end k s n out = go s.star
  where
    go : (b : Bool) → Inside k (cond b (ended (Bad k why.form) out) (ended (Octets n) out)).read
    go true = omega arith
    go false = tt

inside-from : (f : Style) (k : ℕ) (s : State) (n i : ℕ) (out l : List ℕ) → i + length l ≤ k + 1 → Inside k (read_from f s n k i out l).read
unfolding read_from
inside-from f k s n i out [] h = inside-end k s n out
inside-from f k s n i out (x ∷ xs) h =
    go (take_of f s x n out).turn (take_of f s x n out).out (λ t m out'. inside-from f k t m (i + 1) out' xs (omega arith))
  where
    go : (r : Turn) (out' : List ℕ) → ((t : State) (m : ℕ) (out'' : List ℕ) → Inside k (read_from f t m k (i + 1) out'' xs).read)
        → Inside k (onward r i out' (λ t m. read_from f t m k (i + 1) out' xs)).read
    go (turns.Go t m) out' q = q t m out'
    go (turns.Bad w) out' q = omega arith
    go turns.Long out' q = tt

pub bad-within : (f : Style) (t out : List ℕ) {at w : ℕ} → (read_of f t out).read ≡ Bad at w → at ≤ length t
unfolding read_of
bad-within f t out e =
    subst (Inside (length t)) e (inside-from f (length t) begun 0 0 out (t ++ (10 ∷ [])) (rw (length-append t (10 ∷ [])) (omega arith)))
