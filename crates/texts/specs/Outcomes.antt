-- What the walk answers with so many of the first n octets of l left, one law for each way through a step, in the form in which the code's
-- returns ask it. Assumes nothing.
use Rattle.std.specs.Prelude.{◌≡◌, refl, List, [], ◌∷◌, true, false, ℕ, ◌+◌, ◌-◌, ◌≤◌, ◌<◌, min, length, get_or, Err}
use Rattle.std.proofs.Common.{sym, ap, ◌∙◌, arith}
use Rattle.names.specs.Names.{alnum}
use Rattle.names.specs.Automaton.{stop, Checked}
use Rattle.names.specs.AutomatonLaws as laws
use Rattle.names.specs.Answered.{past, placed, named, answer_in}
use Rattle.names.specs.AnsweredLaws.{cut_short, ends_there, stops, goes, whole, named_back}
use Rattle.texts.specs.TextCheck.{State, start, letter, hyphen, after, dot, text_automaton, text_check}
use Rattle.texts.specs.Laws.{start-letter, start-other, dot-goes, dot_far, dot-other}
use Rattle.texts.specs.Laws.{inside-letter, inside-long, inside-hyphen, inside-last, inside-other}
use Rattle.texts.specs.Exact.{place-small, decided}

-- after an octet of a label that may have `label` octets more
module _ (l : List ℕ) (n : ℕ) (f : n ≤ length l) (left label : ℕ) where
  abbrev answer : State → ℕ → ℕ
  answer = answer_in text_automaton l n

  abbrev place : ℕ
  place = n - left

  abbrev x : ℕ
  x = get_or l place 0

  pub letter-end : left ≡ 0 → past ≡ answer (letter label) left
  letter-end z = ends_there text_automaton l n f left (letter label) z refl

  pub hyphen-end : left ≡ 0 → n ≡ answer (hyphen label) left
  hyphen-end z = cut_short text_automaton l n f left (hyphen label) z refl

  module _ (i : left ≤ n) (z : left ≡ 0 → ⊥) where
    -- after a hyphen
    pub hyphen-letter : {r : ℕ} → alnum x ≡ true → 1 ≤ label → r ≡ answer (letter (label - 1)) (left - 1) → r ≡ answer (hyphen label) left
    hyphen-letter a k g = g ∙ sym (goes text_automaton l n f left (hyphen label) i z (inside-letter label x stop a (omega arith)))

    pub hyphen-hyphen : {r : ℕ} → alnum x ≡ false → x ≡ 45 → 1 < label → r ≡ answer (hyphen (label - 1)) (left - 1) → r ≡ answer (hyphen label) left
    hyphen-hyphen a q k g = g ∙ sym (goes text_automaton l n f left (hyphen label) i z (inside-hyphen label x stop a q k))

    pub hyphen_last : alnum x ≡ false → x ≡ 45 → label ≤ 1 → place ≡ answer (hyphen label) left
    hyphen_last a q k = stops text_automaton l n f left (hyphen label) i z (inside-last label x stop a q k)

    pub hyphen-other : alnum x ≡ false → (x ≡ 45 → ⊥) → place ≡ answer (hyphen label) left
    hyphen-other a q = stops text_automaton l n f left (hyphen label) i z (inside-other label x stop a q)

    -- after a letter or a digit
    pub letter-letter : {r : ℕ} → alnum x ≡ true → (label ≡ 0 → ⊥) → r ≡ answer (letter (label - 1)) (left - 1) → r ≡ answer (letter label) left
    letter-letter a k g = g ∙ sym (goes text_automaton l n f left (letter label) i z (inside-letter label x (dot place x) a k))

    pub letter-long : alnum x ≡ true → label ≡ 0 → place ≡ answer (letter label) left
    letter-long a k = stops text_automaton l n f left (letter label) i z (inside-long label x (dot place x) a k)

    pub letter-hyphen : {r : ℕ} → alnum x ≡ false → x ≡ 45 → 1 < label → r ≡ answer (hyphen (label - 1)) (left - 1) → r ≡ answer (letter label) left
    letter-hyphen a q k g = g ∙ sym (goes text_automaton l n f left (letter label) i z (inside-hyphen label x (dot place x) a q k))

    pub letter-last : alnum x ≡ false → x ≡ 45 → label ≤ 1 → place ≡ answer (letter label) left
    letter-last a q k = stops text_automaton l n f left (letter label) i z (inside-last label x (dot place x) a q k)

    pub letter-other : alnum x ≡ false → (x ≡ 45 → ⊥) → (x ≡ 46 → ⊥) → place ≡ answer (letter label) left
    letter-other a q d = stops text_automaton l n f left (letter label) i z (inside-other label x (dot place x) a q ∙ dot-other place x d)

    pub letter-far : alnum x ≡ false → x ≡ 46 → 251 < place → place ≡ answer (letter label) left
    letter-far a d k = stops text_automaton l n f left (letter label) i z (inside-other label x (dot place x) a (omega arith) ∙ dot_far place x d k)

    -- past a dot, at a label's first octet
    module _ (a : alnum x ≡ false) (d : x ≡ 46) (k : place ≤ 251) where
      next : answer (letter label) left ≡ answer start (left - 1)
      next = goes text_automaton l n f left (letter label) i z (inside-other label x (dot place x) a (omega arith) ∙ dot-goes place x d k)

      next_place : place + 1 ≡ n - (left - 1)
      next_place = omega arith

      pub label-missing : left - 1 ≡ 0 → n ≡ answer (letter label) left
      label-missing m = cut_short text_automaton l n f (left - 1) start m refl ∙ sym next

      pub label-opens : {r m : ℕ} → (left - 1 ≡ 0 → ⊥) → alnum (get_or l (place + 1) 0) ≡ true → m ≡ after (place + 1) → r ≡ answer (letter m) (left - 1 - 1)
          → r ≡ answer (letter label) left
      label-opens p e v g =
          g
          ∙ ap (λ (j : ℕ). answer (letter j) (left - 1 - 1)) (v ∙ ap after next_place)
          ∙ sym (next ∙ goes text_automaton l n f (left - 1) start (omega arith) p (start-letter (n - (left - 1)) _ (rw next_place at e)))

      pub label-other : (left - 1 ≡ 0 → ⊥) → alnum (get_or l (place + 1) 0) ≡ false → place + 1 ≡ answer (letter label) left
      label-other p e =
          next_place
          ∙ stops text_automaton l n f (left - 1) start (omega arith) p (start-other (n - (left - 1)) _ (rw next_place at e))
          ∙ sym next

-- ---- the whole check

pub no-octet : (s : List ℕ) → length s ≡ 0 → Err 0 ≡ text_check s
unfolding text_check
no-octet [] e = sym (laws.ends-bad text_automaton start 0 refl)
no-octet (y ∷ ys) e = absurd (omega arith)

pub first-other : (s : List ℕ) → (length s ≡ 0 → ⊥) → alnum (get_or s 0 0) ≡ false → Err 0 ≡ text_check s
unfolding text_check
first-other [] n a = absurd (n refl)
first-other (y ∷ ys) n a = sym (laws.stops text_automaton start 0 y ys (start-other 0 y a))

-- the walk from the second octet on, of the octets that decide
pub by_first : (s : List ℕ) (n : ℕ) {r : ℕ} {a : Checked} → (length s ≡ 0 → ⊥) → alnum (get_or s 0 0) ≡ true → n ≡ min 254 (length s)
    → r ≡ answer_in text_automaton s n (letter 62) (n - 1) → a ≡ named r → a ≡ text_check s
unfolding text_check
by_first s n h b e g q =
    let z : n - n ≡ 0 = omega arith in
    let first = goes text_automaton s n (omega arith) n start (omega arith) (omega arith) {st' = letter 62} (rw z (start-letter 0 (get_or s 0 0) b)) in
    q
    ∙ ap named (g ∙ sym first ∙ whole text_automaton s n start)
    ∙ ap (λ (w : Checked). named (placed w)) (decided s n e)
    ∙ named_back (text_check s) (λ p k. let m = place-small s p k in omega arith)
