-- `name_check` takes each name. Assumes nothing.
use Rattle.std.specs.Prelude.{◌≡◌, refl, List, [], ◌∷◌, ◌++◌, true, false, ℕ, suc, ◌+◌, ◌-◌, ◌≤◌, length, Ok}
use Rattle.std.proofs.Common.{sym, ap, ◌∙◌, inl, inr, arith, length-append}
use Rattle.names.specs.Automaton.{walk}
use Rattle.names.specs.AutomatonLaws.{goes, ends-good}
use Rattle.names.specs.Wire.{State, letter, hyphen, first, root, step, inside, name_automaton, name_check}
use Rattle.names.specs.Laws.{hyphen-fits, inside-letter, inside-hyphen, first-letter, in-label, at_length, label-fits, length-root, length-go}
use Rattle.octets.specs.Lists.{All}
use Rattle.names.specs.Names.{alnum, last, Ldh, Label, wire, IsName}

-- the root octet at the end
pub root-good : (at : ℕ) → (at ≡ 0 → ⊥) → walk name_automaton (letter 0) at (0 ∷ []) ≡ Ok tt
root-good at n = goes name_automaton (letter 0) at 0 [] (at_length 0 at 0 refl ∙ length-root at 0 refl n) ∙ ends-good name_automaton root (at + 1) refl

pub hyphen-not-alnum : (x : ℕ) → x ≡ 45 → alnum x ≡ false
unfolding alnum
hyphen-not-alnum x e = rw e

-- an octet is not both a letter or a digit and a hyphen
pub both : {X : Type 0} (x : ℕ) → alnum x ≡ true → x ≡ 45 → X
both x a q =
    let n = hyphen-not-alnum x q in
    let z : ◌≡◌ {A = ℕ} 0 1 = cc in
    absurd (omega arith)

-- a label does not end in a hyphen
pub not_last : (x : ℕ) (l : List ℕ) → x ≡ 45 → alnum (last x l) ≡ true → 1 ≤ length l
not_last x [] q e = both x e q
not_last x (z ∷ l) q e = omega arith

-- one octet of a label, not its first
one-octet : (x at k : ℕ) (l t : List ℕ) (st : State) → step st at x ≡ inside k x → suc (length l) ≡ k → Ldh x → alnum (last x l) ≡ true
    → (alnum x ≡ true → walk name_automaton (letter (k - 1)) (at + 1) (l ++ t) ≡ walk name_automaton (letter 0) (at + 1 + (k - 1)) t)
    → (x ≡ 45 → walk name_automaton (hyphen (k - 1)) (at + 1) (l ++ t) ≡ walk name_automaton (letter 0) (at + 1 + (k - 1)) t)
    → walk name_automaton st at (x ∷ (l ++ t)) ≡ walk name_automaton (letter 0) (at + k) t
one-octet x at k l t st s n (inl a) e f g =
    let m : at + 1 + (k - 1) ≡ at + k = omega arith in
    goes name_automaton st at x (l ++ t) (s ∙ inside-letter k x a) ∙ (rw m at (f a))
one-octet x at k l t st s n (inr q) e f g =
    let m : at + 1 + (k - 1) ≡ at + k = omega arith in
    let p = not_last x l q e in
    goes name_automaton st at x (l ++ t) (s ∙ inside-hyphen k x (hyphen-not-alnum x q) (hyphen-fits k x q (omega arith))) ∙ (rw m at (g q))

-- the rest of a label, from the state after y on, up to the label's end
mutual
  pub rest-letter : (l : List ℕ) (y at k : ℕ) (t : List ℕ) → length l ≡ k → All Ldh l → alnum (last y l) ≡ true
      → walk name_automaton (letter k) at (l ++ t) ≡ walk name_automaton (letter 0) (at + k) t
  rest-letter [] y at k t n o e =
      let m : at ≡ at + k = omega arith in
      let z : k ≡ 0 = sym n in
      cc
  rest-letter (x ∷ l) y at k t n o e =
      one-octet x at k l t (letter k) (in-label k at x (omega arith)) n o.0 e
      (λ a. rest-letter l x (at + 1) (k - 1) t (omega arith) o.1 e)
      (λ q. rest-hyphen l x (at + 1) (k - 1) t (omega arith) o.1 q e)

  pub rest-hyphen : (l : List ℕ) (y at k : ℕ) (t : List ℕ) → length l ≡ k → All Ldh l → y ≡ 45 → alnum (last y l) ≡ true
      → walk name_automaton (hyphen k) at (l ++ t) ≡ walk name_automaton (letter 0) (at + k) t
  rest-hyphen [] y at k t n o q e = both y e q
  rest-hyphen (x ∷ l) y at k t n o q e =
      one-octet x at k l t (hyphen k) refl n o.0 e
      (λ a. rest-letter l x (at + 1) (k - 1) t (omega arith) o.1 e)
      (λ q'. rest-hyphen l x (at + 1) (k - 1) t (omega arith) o.1 q' e)

-- a label with its length octet
one_label : (l : List ℕ) (at : ℕ) (t : List ℕ) → Label l → at + length l ≤ 253
    → walk name_automaton (letter 0) at (length l ∷ (l ++ t)) ≡ walk name_automaton (letter 0) (at + 1 + length l) t
one_label [] at t o h = let s = o.some in absurd (omega arith)
one_label (x ∷ l) at t o h =
    let s = o.short in
    let k : ℕ = suc (length l) in
    let m : at + 1 + 1 + (k - 1) ≡ at + 1 + k = omega arith in
    goes name_automaton (letter 0) at k (x ∷ (l ++ t)) (at_length 0 at k refl ∙ length-go at k (omega arith) (label-fits at k (omega arith) (omega arith)))
    ∙ goes name_automaton (first (k - 1)) (at + 1) x (l ++ t) (first-letter (k - 1) (at + 1) x o.begins)
    ∙ rest-letter l x (at + 1 + 1) (k - 1) t (omega arith) o.octets.1 o.ends
    ∙ ap (λ (j : ℕ). walk name_automaton (letter 0) j t) m

pub wire-some : (ls : List (List ℕ)) → 1 ≤ length (wire ls)
wire-some [] = omega arith
wire-some (l ∷ ls) = omega arith

pub wire-good : (ls : List (List ℕ)) (at : ℕ) → All Label ls → at + length (wire ls) ≤ 255 → (at ≡ 0 → 1 ≤ length ls)
    → walk name_automaton (letter 0) at (wire ls) ≡ Ok tt
wire-good [] at o h n = root-good at (λ z. let q = n z in omega arith)
wire-good (l ∷ ls) at o h n =
    let a = length-append l (wire ls) in
    let b = o.0.some in
    let c = wire-some ls in
    one_label l at (wire ls) o.0 (omega arith)
    ∙ wire-good ls (at + 1 + length l) o.1 (omega arith) (λ z. absurd (omega arith))

pub good-complete : (s : List ℕ) → IsName s → name_check s ≡ Ok tt
unfolding name_check
good-complete s o =
    let h = o.short in
    let e = ap length o.is in
    rw o.is (wire-good o.labels 0 o.each (omega arith) (λ _. o.some))
