-- `text_check` takes each text. Assumes nothing.
use Rattle.std.specs.Prelude.{◌≡◌, refl, List, [], ◌∷◌, ◌++◌, true, false, ℕ, suc, ◌+◌, ◌-◌, ◌≤◌, length, Ok}
use Rattle.std.proofs.Common.{sym, ap, ◌∙◌, inl, inr, append-nil, arith, length-append}
use Rattle.octets.specs.Lists.{All}
use Rattle.names.specs.Names.{alnum, last, Ldh, Label}
use Rattle.names.specs.Complete.{hyphen-not-alnum, both, not_last}
use Rattle.names.specs.Automaton.{Move, stop, walk}
use Rattle.names.specs.AutomatonLaws.{goes, ends-good}
use Rattle.texts.specs.Texts.{dotted, text, IsText}
use Rattle.texts.specs.TextCheck.{State, start, letter, hyphen, step, after, inside, dot, text_automaton, text_check}
use Rattle.texts.specs.Laws.{start-letter, dot-goes, inside-letter, inside-hyphen, inside-other}

dot-not-alnum : alnum 46 ≡ false
unfolding alnum
dot-not-alnum = refl

-- the walk has passed the label's octets l, from where the label may have k octets more
abbrev Passed : State → ℕ → ℕ → List ℕ → List ℕ → Type 0
Passed st at k l t = walk text_automaton st at (l ++ t) ≡ walk text_automaton (letter (k - length l)) (at + length l) t

-- one octet of a label, not its first
one-octet : (x at k : ℕ) (l t : List ℕ) (st : State) (other : Move State) → step st at x ≡ inside k x other → suc (length l) ≤ k
    → Ldh x → alnum (last x l) ≡ true
    → (alnum x ≡ true → Passed (letter (k - 1)) (at + 1) (k - 1) l t)
    → (x ≡ 45 → Passed (hyphen (k - 1)) (at + 1) (k - 1) l t)
    → Passed st at k (x ∷ l) t
one-octet x at k l t st other s n o e f g = one o
  where
    next : walk text_automaton (letter (k - 1 - length l)) (at + 1 + length l) t ≡ walk text_automaton (letter (k - suc (length l))) (at + suc (length l)) t
    next =
        let i : k - 1 - length l ≡ k - suc (length l) = omega arith in
        let j : at + 1 + length l ≡ at + suc (length l) = omega arith in
        cc

    one : Ldh x → Passed st at k (x ∷ l) t
    one (inl a) = goes text_automaton st at x (l ++ t) (s ∙ inside-letter k x other a (omega arith)) ∙ f a ∙ next
    one (inr q) =
        let p = not_last x l q e in
        goes text_automaton st at x (l ++ t) (s ∙ inside-hyphen k x other (hyphen-not-alnum x q) q (omega arith)) ∙ g q ∙ next

-- the rest of a label, from the state after y on, up to the label's end
mutual
  rest-letter : (l : List ℕ) (y at k : ℕ) (t : List ℕ) → length l ≤ k → All Ldh l → alnum (last y l) ≡ true → Passed (letter k) at k l t
  rest-letter [] y at k t n o e =
      let i : k ≡ k - 0 = omega arith in
      let j : at ≡ at + 0 = omega arith in
      cc
  rest-letter (x ∷ l) y at k t n o e =
      one-octet x at k l t (letter k) (dot at x) refl n o.0 e
      (λ a. rest-letter l x (at + 1) (k - 1) t (omega arith) o.1 e)
      (λ q. rest-hyphen l x (at + 1) (k - 1) t (omega arith) o.1 q e)

  rest-hyphen : (l : List ℕ) (y at k : ℕ) (t : List ℕ) → length l ≤ k → All Ldh l → y ≡ 45 → alnum (last y l) ≡ true → Passed (hyphen k) at k l t
  rest-hyphen [] y at k t n o q e = both y e q
  rest-hyphen (x ∷ l) y at k t n o q e =
      one-octet x at k l t (hyphen k) stop refl n o.0 e
      (λ a. rest-letter l x (at + 1) (k - 1) t (omega arith) o.1 e)
      (λ q'. rest-hyphen l x (at + 1) (k - 1) t (omega arith) o.1 q' e)

-- a whole label from its first octet on
one_label : (l : List ℕ) (at : ℕ) (t : List ℕ) → Label l → at + length l ≤ 253
    → walk text_automaton start at (l ++ t) ≡ walk text_automaton (letter (after at - (length l - 1))) (at + length l) t
one_label [] at t o h = let s = o.some in absurd (omega arith)
one_label (x ∷ l) at t o h =
    let s = o.short in
    let i : suc (length l) - 1 ≡ length l = omega arith in
    let j : at + 1 + length l ≡ at + suc (length l) = omega arith in
    goes text_automaton start at x (l ++ t) (start-letter at x o.begins)
    ∙ rest-letter l x (at + 1) (after at) t (omega arith) o.octets.1 o.ends
    ∙ rw (i, j)

dotted-some : (l : List ℕ) (ms : List (List ℕ)) → Label l → 1 ≤ length (dotted l ms)
dotted-some l [] o = o.some
dotted-some l (m ∷ ms) o = let a = length-append l (46 ∷ dotted m ms) in omega arith

dotted-good : (ms : List (List ℕ)) (l : List ℕ) (at : ℕ) → Label l → All Label ms → at + length (dotted l ms) ≤ 253
    → walk text_automaton start at (dotted l ms) ≡ Ok tt
dotted-good [] l at o p h = ap (walk text_automaton start at) (sym (append-nil l)) ∙ one_label l at [] o h ∙ ends-good text_automaton (letter _) _ refl
dotted-good (m ∷ ms) l at o p h =
    let a = length-append l (46 ∷ dotted m ms) in
    let b = dotted-some m ms p.0 in
    let j : ℕ = at + length l in
    let k : ℕ = after at - (length l - 1) in
    one_label l at (46 ∷ dotted m ms) o (omega arith)
    ∙ goes text_automaton (letter k) j 46 (dotted m ms) (inside-other k 46 (dot j 46) dot-not-alnum (λ q. omega arith) ∙ dot-goes j 46 refl (omega arith))
    ∙ dotted-good ms m (j + 1) p.0 p.1 (omega arith)

text-good : (ls : List (List ℕ)) → 1 ≤ length ls → All Label ls → length (text ls) ≤ 253 → walk text_automaton start 0 (text ls) ≡ Ok tt
text-good [] n o h = absurd (omega arith)
text-good (l ∷ ls) n o h = dotted-good ls l 0 o.0 o.1 (omega arith)

pub good-complete : (s : List ℕ) → IsText s → text_check s ≡ Ok tt
unfolding text_check
good-complete s o =
    let h = o.short in
    let e = ap length o.is in
    rw o.is (text-good o.labels o.some o.each (omega arith))
