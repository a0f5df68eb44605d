-- What the walk answers with so many of the first n octets of a buffer left, one lemma for each way through a step, in the form in which
-- the code's returns ask it. Assumes nothing.
use Rattle.std.specs.Prelude.{◌≡◌, refl, List, Bool, true, false, ℕ, ◌+◌, ◌-◌, ◌≤◌, ◌<◌, min, ltb, eqb, length, get_or}
use Rattle.std.proofs.Common.{sym, ap, ◌∙◌, arith, ltb-true}
use Rattle.std.proofs.Math.Seq.{take-length}
use Rattle.names.specs.Automaton.{Checked}
use Rattle.names.specs.Names.{alnum}
use Rattle.names.specs.Wire.{State, letter, hyphen, first, root, step, inside, length_octet, hyphen_fits, label_fits, name_automaton, name_check}
use Rattle.names.specs.Answered.{past, named, answer_in}
use Rattle.names.specs.AnsweredLaws.{cut_short, ends_there, stops, goes, whole, named_back, told}
use Rattle.names.specs.Cases.{by_both}
use Rattle.names.specs.Laws.{inside-letter, inside-hyphen, inside-other, first-letter, first-other, in-label, at_length}
use Rattle.names.specs.Laws.{length-empty, length-root, length-unfit, length-go}
use Rattle.names.specs.Exact.{place-small}

-- in a label of which `label` octets are to come; the code's `stop` is `limit` here
module _ (b : List ℕ) (n : ℕ) (fits : n ≤ length b) (left label limit : ℕ) (i : left ≤ n) (l : limit ≡ left - label) where
  abbrev answer : State → ℕ → ℕ
  answer = answer_in name_automaton b n

  abbrev place : ℕ
  place = n - left

  abbrev x : ℕ
  x = get_or b place 0

  -- before the limit
  module _ (z : left ≡ limit → ⊥) where
    more : left ≡ 0 → ⊥
    more e = omega arith

    -- after a hyphen
    pub hyphen-letter : {r : ℕ} → alnum x ≡ true → r ≡ answer (letter (label - 1)) (left - 1) → r ≡ answer (hyphen label) left
    hyphen-letter e g = g ∙ sym (goes name_automaton b n fits left (hyphen label) i more (inside-letter label x e))

    pub hyphen-hyphen : {r : ℕ} → alnum x ≡ false → hyphen_fits label x ≡ true → r ≡ answer (hyphen (label - 1)) (left - 1) → r ≡ answer (hyphen label) left
    hyphen-hyphen e q g = g ∙ sym (goes name_automaton b n fits left (hyphen label) i more (inside-hyphen label x e q))

    pub hyphen-other : alnum x ≡ false → hyphen_fits label x ≡ false → place ≡ answer (hyphen label) left
    hyphen-other e q = stops name_automaton b n fits left (hyphen label) i more (inside-other label x e q)

    -- after a letter or a digit
    here : step (letter label) place x ≡ inside label x
    here = in-label label place x (λ e. omega arith)

    pub letter-letter : {r : ℕ} → alnum x ≡ true → r ≡ answer (letter (label - 1)) (left - 1) → r ≡ answer (letter label) left
    letter-letter e g = g ∙ sym (goes name_automaton b n fits left (letter label) i more (here ∙ inside-letter label x e))

    pub letter-hyphen : {r : ℕ} → alnum x ≡ false → hyphen_fits label x ≡ true → r ≡ answer (hyphen (label - 1)) (left - 1) → r ≡ answer (letter label) left
    letter-hyphen e q g = g ∙ sym (goes name_automaton b n fits left (letter label) i more (here ∙ inside-hyphen label x e q))

    pub letter-other : alnum x ≡ false → hyphen_fits label x ≡ false → place ≡ answer (letter label) left
    letter-other e q = stops name_automaton b n fits left (letter label) i more (here ∙ inside-other label x e q)

  -- at the limit, after a hyphen: an octet of the label is to come, so that the n octets end there
  pub hyphen-cut : left ≡ limit → 1 ≤ label → n ≡ answer (hyphen label) left
  hyphen-cut q k = cut_short name_automaton b n fits left (hyphen label) (omega arith) refl

  pub letter-cut : left ≡ 0 → n ≡ answer (letter label) left
  letter-cut z = cut_short name_automaton b n fits left (letter label) z refl

  -- at the label's end
  module _ (q : left ≡ limit) (h : left ≡ 0 → ⊥) where
    there : step (letter label) place x ≡ length_octet place x
    there = at_length label place x (omega arith)

    -- the root octet
    pub root-first : x ≡ 0 → place ≡ 0 → place ≡ answer (letter label) left
    root-first e f = stops name_automaton b n fits left (letter label) i h (there ∙ length-empty place x e f)

    rooted : x ≡ 0 → (place ≡ 0 → ⊥) → answer (letter label) left ≡ answer root (left - 1)
    rooted e f = goes name_automaton b n fits left (letter label) i h (there ∙ length-root place x e f)

    next_place : place + 1 ≡ n - (left - 1)
    next_place = omega arith

    pub root-more : x ≡ 0 → (place ≡ 0 → ⊥) → 0 < left - 1 → place + 1 ≡ answer (letter label) left
    root-more e f m = next_place ∙ stops name_automaton b n fits (left - 1) root (omega arith) (λ z. omega arith) refl ∙ sym (rooted e f)

    pub root-last : x ≡ 0 → (place ≡ 0 → ⊥) → left - 1 ≤ 0 → past ≡ answer (letter label) left
    root-last e f m = ends_there name_automaton b n fits (left - 1) root (omega arith) refl ∙ sym (rooted e f)

    -- a length octet, which the code holds as the number `size`
    module _ (size : ℕ) (w : size ≡ x) (e : x ≡ 0 → ⊥) where
      pub label-unfit : label_fits place size ≡ false → place ≡ answer (letter label) left
      label-unfit f = stops name_automaton b n fits left (letter label) i h (there ∙ length-unfit place x e (rw w at f))

      -- past it, at a label's first octet
      module _ (f : label_fits place size ≡ true) where
        opens : answer (letter label) left ≡ answer (first (size - 1)) (left - 1)
        opens = goes name_automaton b n fits left (letter label) i h (there ∙ length-go place x e (rw w at f) ∙ rw w)

        pub cut-at-first : left - 1 ≡ 0 → n ≡ answer (letter label) left
        cut-at-first m = cut_short name_automaton b n fits (left - 1) (first (size - 1)) m refl ∙ sym opens

        pub label-opens : {r : ℕ} → (left - 1 ≡ 0 → ⊥) → alnum (get_or b (place + 1) 0) ≡ true → r ≡ answer (letter (size - 1)) (left - 1 - 1)
            → r ≡ answer (letter label) left
        label-opens m a g =
            let s = first-letter (size - 1) (n - (left - 1)) _ (rw next_place at a) in
            g ∙ sym (opens ∙ goes name_automaton b n fits (left - 1) (first (size - 1)) (omega arith) m s)

        pub bad-first-octet : (left - 1 ≡ 0 → ⊥) → alnum (get_or b (place + 1) 0) ≡ false → place + 1 ≡ answer (letter label) left
        bad-first-octet m a =
            next_place
            ∙ stops name_automaton b n fits (left - 1) (first (size - 1)) (omega arith) m (first-other (size - 1) (n - (left - 1)) _ (rw next_place at a))
            ∙ sym opens

-- of the octets left after a length octet, so many come after a label of `size` octets
beyond : (rest size : ℕ) → 1 ≤ rest → 1 ≤ size → rest - min size rest ≡ rest - 1 - (size - 1)
beyond rest size r s = omega arith

pub after-label : {m : ℕ} (left size octet : ℕ) → (left - 1 ≡ 0 → ⊥) → size ≡ octet → (octet ≡ 0 → ⊥) → m ≡ min size (left - 1)
    → left - 1 - m ≡ left - 1 - 1 - (size - 1)
after-label left size octet z w e r = ap (λ (k : ℕ). left - 1 - k) r ∙ beyond (left - 1) size (omega arith) (omega arith)

-- a hyphen that fits is not the last octet of its label
pub hyphen-more : {b : Bool} (label x : ℕ) → b ≡ hyphen_fits label x → b ≡ true → 1 ≤ label - 1
hyphen-more label x e f =
    by_both (eqb x 45) (ltb 1 label) (λ c. c ≡ true → 1 ≤ label - 1)
    (λ _ l _. let h = ltb-true 1 label l in omega arith)
    (λ z. let n : ◌≡◌ {A = ℕ} 0 1 = cc in absurd (omega arith))
    (told e f)

-- the walk over a whole slice, and its answer
pub held-check : (s : List ℕ) {r : ℕ} {a : Checked} → r ≡ answer_in name_automaton s (length s) (letter 0) (length s) → a ≡ named r → a ≡ name_check s
unfolding name_check
held-check s e f =
    let w = whole name_automaton s (length s) (letter 0) in
    f ∙ ap named (e ∙ rw (take-length s) at w) ∙ named_back (name_check s) (λ p h. let k = place-small s p h in omega arith)
