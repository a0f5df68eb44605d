-- Wherever the check of a name stops, something else could follow: the letter a to the end of the label, and the root octet. Assumes nothing.
use Rattle.std.specs.Prelude.{◌≡◌, refl, List, [], ◌∷◌, ◌++◌, true, ℕ, zero, suc, ◌+◌, eqb, replicate, Err}
use Rattle.std.proofs.Common.{◌∙◌, inl, arith, eqb-true}
use Rattle.std.proofs.lemmas.List.{length-replicate}
use Rattle.std.proofs.lemmas.Bool.{eqb-false}
use Rattle.octets.specs.Lists.{All}
use Rattle.octets.specs.Cases.{by-test}
use Rattle.names.specs.Names.{alnum, last, Ldh, Label}
use Rattle.names.specs.AutomatonLaws.{goes, ends-good, Ending, StopsAt, stopped}
use Rattle.names.specs.Wire.{State, letter, hyphen, first, root, name_automaton, name_check}
use Rattle.names.specs.Laws.{first-letter}
use Rattle.names.specs.Sound.{Valid, Claim, stepped}
use Rattle.names.specs.Complete.{root-good, rest-letter, rest-hyphen, wire-good}

pub a-alnum : alnum 97 ≡ true
unfolding alnum
a-alnum = refl

-- k times the letter a
all-a : (k : ℕ) → All Ldh (replicate k 97)
all-a zero = tt
all-a (suc k) = (inl a-alnum, all-a k)

last-a : (k y : ℕ) → alnum y ≡ true → alnum (last y (replicate k 97)) ≡ true
last-a zero y e = e
last-a (suc k) y e = last-a k 97 a-alnum

-- some octets that end a name
end-letter : (k y at : ℕ) → alnum y ≡ true → (at + k ≡ 0 → ⊥) → Ending name_automaton (letter k) at
end-letter k y at e n = (
  replicate k 97 ++ (0 ∷ []),
  rest-letter (replicate k 97) y at k (0 ∷ []) (length-replicate k 97) (all-a k) (last-a k y e) ∙ root-good (at + k) n,
)

-- the name of one label, the letter a
end-start : (k at : ℕ) → at + k ≡ 0 → Ending name_automaton (letter k) at
end-start k at z =
    let e : k ≡ 0 = omega arith in
    let f : at ≡ 0 = omega arith in
    let l : Label (97 ∷ []) = record { some = omega arith; short = omega arith; octets = (inl a-alnum, tt); begins = a-alnum; ends = a-alnum } in
    (1 ∷ 97 ∷ 0 ∷ [], rw (e, f) (wire-good ((97 ∷ []) ∷ []) 0 (l, tt) (omega arith) (λ _. omega arith)))

ending : (st : State) (y at : ℕ) → Valid st y at → Ending name_automaton st at
ending (letter k) y at v =
    by-test (eqb (at + k) 0) (λ b. Ending name_automaton (letter k) at)
    (λ e. end-start k at (eqb-true (at + k) 0 e))
    (λ n. end-letter k y at v.0 (eqb-false (at + k) 0 n))
ending (hyphen zero) y at v = absurd (omega arith)
ending (hyphen (suc k)) y at v = (
  replicate (suc k) 97 ++ (0 ∷ []),
  rest-hyphen (replicate (suc k) 97) 45 at (suc k) (0 ∷ []) (length-replicate (suc k) 97) (all-a (suc k)) refl (last-a k 97 a-alnum)
      ∙ root-good (at + suc k) (omega arith),
)
ending (first k) y at v =
    let t = end-letter k 97 (at + 1) a-alnum (omega arith) in
    (97 ∷ t.0, goes name_automaton (first k) at 97 t.0 (first-letter k at 97 a-alnum) ∙ t.1)
ending root y at v = ([], ends-good name_automaton root at refl)

pub bad-stops : (s : List ℕ) (p : ℕ) → name_check s ≡ Err p → StopsAt name_automaton (letter 0) 0 s p
unfolding name_check alnum
bad-stops s p e = stopped name_automaton Valid Claim stepped ending s (letter 0) 48 0 p (refl, omega arith) e
