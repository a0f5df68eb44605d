-- One character more after an offset that stood alone: only blanks and line breaks may follow. Assumes nothing.
use Rattle.std.specs.Prelude.{◌≡◌, Bool, true, false, List, [], ◌∷◌, ◌++◌, ℕ, ◌≤◌, get_or, take}
use Rattle.std.proofs.Common.{sym, subst, ◌∙◌, arith}
use Rattle.std.proofs.Math.Seq.{append_snoc}
use Rattle.octets.specs.Lists.{All}
use Rattle.inputs.specs.Why as why
use Rattle.dumps.specs.declared.Style.{Style}
use Rattle.dumps.specs.State.{State}
use Rattle.dumps.specs.Class.{Class}
use Rattle.dumps.specs.Class as class
use Rattle.dumps.specs.Mode as mode
use Rattle.dumps.specs.States as states
use Rattle.dumps.specs.States.{class_of}
use Rattle.dumps.specs.Shows as shows
use Rattle.dumps.specs.Shows.{Bare, Lines}
use Rattle.dumps.specs.Moves as moves
use Rattle.dumps.specs.Moves.{by-class}
use Rattle.dumps.specs.Places as places
use Rattle.dumps.specs.Places.{Place}
use Rattle.dumps.specs.Onward.{Next, then, bad, bad-form, line_on, moves-to, keep}

module _ {f : Style} {size m : ℕ} {bs : List ℕ} {x : ℕ} {xs : List ℕ} {s : State} {n i : ℕ} {out pre os last : List ℕ} {stood star : Bool}
    (here : Next f stood size m bs x xs s n i out pre os last star) where
  module _ (g : s.why ≡ 0) (u : s.upto ≤ n) (d : s.ended ≡ true) where
    pub from-ended : s.mode ≡ mode.start → s.star ≡ false → ((t : List ℕ) → All Bare t → Lines f stood star os last (pre ++ t) (take n out))
        → Lines f stood star os last (pre ++ (x ∷ xs)) bs
    from-ended v q l =
        by-class x
        (λ k y. line_on here s n out (still (shows.line_break y)) (λ _. tt) (moves-to here s (at class.Break k) g u (λ z. absurd (omega arith))))
        (λ k y h. keep here s (at class.Blank k) g u (λ z. absurd (omega arith)) h (still (shows.blank y)))
        (λ k _ _. bad here (states.but why.offset s) (moves.first_ended f x s d ∙ at class.Digit k) (λ z. absurd (omega arith)))
        (λ k h _.
        moves.by-star f x n 0 s
        (λ j. bad-form here (j ∙ at class.Other k))
        (λ _ e _ _ _. let w : true ≡ false = sym d ∙ e in let z : ◌≡◌ {A = ℕ} 0 1 = cc in absurd (omega arith)))
      where
        at : (k : Class) → class_of x ≡ k → states.start_by k f x s ≡ then f s x n out
        at k c = moves.at-start f x n (get_or out s.beside 0) s k c v

        still : Bare x → Place f stood s n out (pre ++ (x ∷ [])) os last star
        still b =
            places.ended v g u d q (λ t c. subst (λ (w : List ℕ). Lines f stood star os last w (take n out)) (sym (append_snoc pre x t)) (l (x ∷ t) (b, c)))
