-- A text that is no list leaves it within itself: at one of its characters, or at its end. Assumes nothing.
use Rattle.std.specs.Prelude.{◌≡◌, List, [], ◌∷◌, ◌++◌, ℕ, ◌+◌, ◌≤◌, length}
use Rattle.std.proofs.Common.{subst, arith, length-append}
use Rattle.inputs.specs.Read.{Read, Octets, Bad, Long}
use Rattle.groups.specs.declared.Kind.{Kind}
use Rattle.groups.specs.Turn.{Turn}
use Rattle.groups.specs.Turn as turns
use Rattle.groups.specs.State.{State}
use Rattle.groups.specs.States.{begun}
use Rattle.groups.specs.Groups.{take_of, onward, read_from, read_of}

abbrev Inside : ℕ → Read → Type 0
Inside k (Octets n) = Unit
Inside k (Bad at w) = at ≤ k
Inside k Long = Unit

inside-from : (f : Kind) (k : ℕ) (s : State) (n i : ℕ) (out l : List ℕ) → i + length l ≤ k + 1 → Inside k (read_from f s n i out l).read
unfolding read_from
inside-from f k s n i out [] h = tt
inside-from f k s n i out (x ∷ xs) h =
    go (take_of f s x n out).turn (take_of f s x n out).out (λ t m out'. inside-from f k t m (i + 1) out' xs (omega arith))
  where
    go : (r : Turn) (out' : List ℕ) → ((t : State) (m : ℕ) (out'' : List ℕ) → Inside k (read_from f t m (i + 1) out'' xs).read)
        → Inside k (onward r i out' (λ t m. read_from f t m (i + 1) out' xs)).read
    go (turns.Go t m) out' q = q t m out'
    go (turns.Bad w) out' q = omega arith
    go turns.Long out' q = tt

pub bad-within : (f : Kind) (t out : List ℕ) {at w : ℕ} → (read_of f t out).read ≡ Bad at w → at ≤ length t
unfolding read_of
bad-within f t out e =
    subst (Inside (length t)) e (inside-from f (length t) begun 0 0 out (t ++ (10 ∷ [])) (rw (length-append t (10 ∷ [])) (omega arith)))
