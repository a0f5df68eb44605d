-- The laws of a table of words as octets: walked entry by entry, it has the words and the numbers that the table has. Assumes nothing.
use Rattle.std.specs.Prelude.{◌≡◌, refl, Bool, cond, List, [], ◌∷◌, ◌++◌, ℕ, suc, ◌+◌, ◌-◌, ◌≤◌, ◌<◌, eqb, length, get_or, take, drop}
use Rattle.std.proofs.Math.Path.{sym, ap}
use Rattle.std.proofs.Common.{◌∙◌, arith, drop_of_length-le, drop-drop}
use Rattle.std.proofs.Math.Bool.{true, false, and-eq-true_iff}
use Rattle.std.proofs.Math.Numerals.{add-one}
use borrow.Author.Tests.{eq-eqb, ne_eqb}
use Rattle.std.proofs.Math.Seq.{drop-cons, drop-append-add, take-append_seam}
use Rattle.octets.specs.ListsLaws.{skip-any}
use Rattle.octets.specs.Lists.{same}
use Rattle.words.specs.Words.{Worded, unknown, words_in, number_in}
use Rattle.words.specs.Encoded.{encoded, break_at, words_from, words_at, number_from, number_at, plain, unbroken}

-- ---- the first line break

module _ (s : List ℕ) (i : ℕ) where
  pub break-here : i < length s → get_or s i 0 ≡ 10 → break_at (drop i s) ≡ 0
  unfolding break_at
  break-here h e = rw (drop-cons s i 0 h, eq-eqb (get_or s i 0) 10 e)

  pub break-later : i < length s → (get_or s i 0 ≡ 10 → ⊥) → break_at (drop i s) ≡ suc (break_at (drop (i + 1) s))
  unfolding break_at
  break-later h n = rw (add-one i, drop-cons s i 0 h, ne_eqb (get_or s i 0) 10 n)

  pub break-none : length s ≤ i → break_at (drop i s) ≡ 0
  unfolding break_at
  break-none h = rw (drop_of_length-le s {i = i} h)

-- the first line break after words without one
break-after : (x t : List ℕ) → plain x ≡ true → break_at (x ++ (10 ∷ t)) ≡ length x
unfolding break_at plain
break-after [] t p = refl
break-after (y ∷ x) t p = go (eqb y 10) p (break-after x t)
  where
    go : (b : Bool) → cond b false (plain x) ≡ true → (plain x ≡ true → break_at (x ++ (10 ∷ t)) ≡ length x)
        → cond b 0 (suc (break_at (x ++ (10 ∷ t)))) ≡ suc (length x)
    go true q f = let z : true ≡ false = sym q in absurd (let e : ◌≡◌ {A = ℕ} 0 1 = cc in omega arith)
    go false q f = ap suc (f q)

-- ---- the first entry

-- its words, and what follows its line break
module _ (x t : List ℕ) (p : plain x ≡ true) where
  own-words : take (break_at (x ++ (10 ∷ t))) (x ++ (10 ∷ t)) ≡ x
  own-words = ap (λ (j : ℕ). take j (x ++ (10 ∷ t))) (break-after x t p) ∙ take-append_seam x (10 ∷ t)

  other_entries : drop (suc (break_at (x ++ (10 ∷ t)))) (x ++ (10 ∷ t)) ≡ t
  other_entries =
      let past : suc (break_at (x ++ (10 ∷ t))) ≡ length x + 1 = omega (arith, break-after x t p) in
      ap (λ (j : ℕ). drop j (x ++ (10 ∷ t))) past ∙ drop-append-add x (10 ∷ t) 1

-- the same at an index, where `end` is the end of the entry's words
module _ (s : List ℕ) (i end : ℕ) (e : end ≡ i + 1 + break_at (drop (i + 1) s)) where
  size-at : end - (i + 1) ≡ break_at (drop (i + 1) s)
  size-at = omega arith

  rest_at : drop (end + 1) s ≡ drop (suc (break_at (drop (i + 1) s))) (drop (i + 1) s)
  rest_at =
      let past : end + 1 ≡ i + 1 + suc (break_at (drop (i + 1) s)) = omega arith in
      ap (λ (j : ℕ). drop j s) past ∙ sym (drop-drop (suc (break_at (drop (i + 1) s))) (i + 1) s)

-- ---- the walk over octets

-- to skip octets is to begin after them
skipped : (k j : ℕ) (t : List ℕ) → words_from k j t ≡ words_at k (drop j t)
unfolding words_from
skipped k = skip-any (words_from k) (λ j x t. refl) (λ j. refl)

number-skipped : (x : List ℕ) (j : ℕ) (t : List ℕ) → number_from x j t ≡ number_at x (drop j t)
unfolding number_from
number-skipped x = skip-any (number_from x) (λ j k t. refl) (λ j. refl)

-- what the walk finds at an index: the number's entry, another's, none
module _ (k : ℕ) (s : List ℕ) (i : ℕ) where
  module _ (end : ℕ) (h : i < length s) (e : end ≡ i + 1 + break_at (drop (i + 1) s)) where
    pub found : get_or s i 0 ≡ k → take (end - (i + 1)) (drop (i + 1) s) ≡ words_at k (drop i s)
    unfolding words_from
    found n = rw (size-at s i end e, drop-cons s i 0 h, eq-eqb (get_or s i 0) k n, add-one)

    pub passed : (get_or s i 0 ≡ k → ⊥) → words_at k (drop (end + 1) s) ≡ words_at k (drop i s)
    unfolding words_from
    passed n =
        let here : words_from k (suc (break_at (drop (i + 1) s))) (drop (i + 1) s) ≡ words_at k (drop i s) =
        rw (drop-cons s i 0 h, ne_eqb (get_or s i 0) k n, add-one) in
        ap (words_at k) (rest_at s i end e) ∙ sym (skipped k (suc (break_at (drop (i + 1) s))) (drop (i + 1) s)) ∙ here

  pub missing : length s ≤ i → unknown ≡ words_at k (drop i s)
  unfolding words_from
  missing h = rw (drop_of_length-le s {i = i} h)

-- the same for words: their entry, another's, none
module _ (x s : List ℕ) (i : ℕ) where
  module _ (end : ℕ) (h : i < length s) (e : end ≡ i + 1 + break_at (drop (i + 1) s)) where
    pub number-found : same (take (end - (i + 1)) (drop (i + 1) s)) x ≡ true → get_or s i 0 ≡ number_at x (drop i s)
    unfolding number_from
    number-found t =
        let own : same (take (break_at (drop (suc i) s)) (drop (suc i) s)) x ≡ true = rw (size-at s i end e, add-one i) at t in
        rw (drop-cons s i 0 h, own)

    pub number_passed : same (take (end - (i + 1)) (drop (i + 1) s)) x ≡ false → number_at x (drop (end + 1) s) ≡ number_at x (drop i s)
    unfolding number_from
    number_passed t =
        let own : same (take (break_at (drop (suc i) s)) (drop (suc i) s)) x ≡ false = rw (size-at s i end e, add-one i) at t in
        let here : number_from x (suc (break_at (drop (i + 1) s))) (drop (i + 1) s) ≡ number_at x (drop i s) =
        rw (drop-cons s i 0 h, own, add-one) in
        ap (number_at x) (rest_at s i end e) ∙ sym (number-skipped x (suc (break_at (drop (i + 1) s))) (drop (i + 1) s)) ∙ here

  pub number-missing : length s ≤ i → 0 ≡ number_at x (drop i s)
  unfolding number_from
  number-missing h = rw (drop_of_length-le s {i = i} h)

-- ---- a table

-- one entry and the others, each as in the table
entry : {A : Type 0} (b : Bool) {x y z u : A} → x ≡ y → z ≡ u → cond b x z ≡ cond b y u
entry true p q = p
entry false p q = q

-- in the octets of a table every number has the words that it has in the table
pub words-encoded : (ws : List Worded) (k : ℕ) → unbroken ws ≡ true → words_at k (encoded ws) ≡ words_in ws k
unfolding encoded unbroken words_from words_in
words-encoded [] k f = refl
words-encoded (w ∷ ws) k f =
    let q = (and-eq-true_iff (plain w.words) (unbroken ws)).0 f in
    let t : List ℕ = w.words ++ (10 ∷ encoded ws) in
    let others = skipped k (suc (break_at t)) t ∙ ap (words_at k) (other_entries w.words (encoded ws) q.0) ∙ words-encoded ws k q.1 in
    entry (eqb w.number k) (own-words w.words (encoded ws) q.0) others

-- and any words have the number that they have in the table
pub number-encoded : (ws : List Worded) (x : List ℕ) → unbroken ws ≡ true → number_at x (encoded ws) ≡ number_in ws x
unfolding encoded unbroken number_from number_in
number-encoded [] x f = refl
number-encoded (w ∷ ws) x f =
    let q = (and-eq-true_iff (plain w.words) (unbroken ws)).0 f in
    let t : List ℕ = w.words ++ (10 ∷ encoded ws) in
    let others = number-skipped x (suc (break_at t)) t ∙ ap (number_at x) (other_entries w.words (encoded ws) q.0) ∙ number-encoded ws x q.1 in
    ap (λ (l : List ℕ). cond (same l x) w.number (number_from x (suc (break_at t)) t)) (own-words w.words (encoded ws) q.0)
    ∙ ap (cond (same w.words x) w.number) others
