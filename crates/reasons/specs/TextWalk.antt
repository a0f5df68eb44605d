-- What stands before a place of a text, along the walk of the check. Assumes nothing.
use Rattle.std.specs.Prelude.{◌≡◌, refl, ◌⊎◌, true, false, ℕ, ◌+◌, ◌-◌, ◌≤◌, ◌<◌, min, leb, eqb, length, Ok, Err}
use Rattle.std.proofs.Common.{sym, ap, ap₂, ◌∙◌, subst, inl, inr, true≢false, arith, length-append, eqb-true, leb-true, leb-false}
use Rattle.std.proofs.Math.Bool.{cond}
use mathlib.Core.List.{List, [], ◌∷◌, ◌++◌, append_assoc}
use Rattle.std.proofs.lemmas.Bool.{eqb-false}
use Rattle.octets.specs.Cases.{by-test}
use Rattle.octets.specs.ListsLaws.{all_append}
use Rattle.names.specs.Names.{alnum, head, last, Ldh, Label}
use Rattle.names.specs.Automaton.{Move, stop, go, Checked, on, walk}
use Rattle.names.specs.AutomatonLaws.{not_good}
use Rattle.names.specs.Complete.{both}
use Rattle.texts.specs.TextCheck.{State, start, letter, hyphen, step, ended, after, inside, dot, text_automaton, text_check}
use Rattle.reasons.specs.Names.{text_reason}
use Rattle.reasons.specs.NamesLaws.{head-snoc, last-append}
use Rattle.reasons.specs.Claims.{pointed, InText, TextWhy}
use Rattle.reasons.specs.TextWhy.{pointed-length, pointed-snoc, last-any, stop-why, end-start, end-hyphen}

-- octets of a label that may have k more
record Begun (s : List ℕ) (k at : ℕ) (begun xs : List ℕ) : Type 0 where
  pub is : InText s at begun xs
  pub some : 1 ≤ length begun
  pub short : length begun ≤ 63
  pub begins : alnum (head 0 begun) ≡ true
  pub left : k ≡ min (63 - length begun) (253 - at)

abbrev Before : List ℕ → State → ℕ → List ℕ → Type 0
Before s start at xs = InText s at [] xs
Before s (letter k) at xs = (begun : List ℕ) × Begun s k at begun xs × (alnum (last 0 begun) ≡ true)
Before s (hyphen k) at xs = (begun : List ℕ) × Begun s k at begun xs × (last 0 begun ≡ 45) × (1 ≤ k)

-- ---- one octet more

dot-not-alnum : alnum 46 ≡ false
unfolding alnum
dot-not-alnum = refl

minus_one : (c n m : ℕ) → m ≡ n + 1 → c - n - 1 ≡ c - m
minus_one c n m e = omega arith

less_one : (a b k : ℕ) → 1 ≤ k → k ≡ min a b → k - 1 ≡ min (a - 1) (b - 1)
less_one a b k h e = omega arith

one_fewer : (k n m at : ℕ) → 1 ≤ k → m ≡ n + 1 → k ≡ min (63 - n) (253 - at) → k - 1 ≡ min (63 - m) (253 - (at + 1))
one_fewer k n m at h q e =
    less_one (63 - n) (253 - at) k h e
    ∙ ap₂ min (minus_one 63 n m q) (minus_one 253 at (at + 1) refl)

module _ (s : List ℕ) (at x : ℕ) (xs : List ℕ) where
  -- an octet of a label
  within : (begun : List ℕ) → InText s at begun (x ∷ xs) → Ldh x → InText s (at + 1) (begun ++ (x ∷ [])) xs
  within begun i o =
      let q = i.place in
      let a = pointed-length i.labels begun in
      let b = pointed-length i.labels (begun ++ (x ∷ [])) in
      let d = length-append begun (x ∷ []) in
      record {
        labels = i.labels;
        each = i.each;
        is = i.is ∙ ap (pointed i.labels) (sym (append_assoc begun (x ∷ []) xs));
        place = omega arith;
        octets = all_append Ldh begun (x ∷ []) i.octets (o, tt);
      }

  opened : InText s at [] (x ∷ xs) → alnum x ≡ true → Begun s (after at) (at + 1) (x ∷ []) xs
  opened i a = record { is = within [] i (inl a); some = omega arith; short = omega arith; begins = a; left = omega arith }

  module _ (begun : List ℕ) (k : ℕ) (w : Begun s k at begun (x ∷ xs)) where
    further : (k ≡ 0 → ⊥) → Ldh x → Begun s (k - 1) (at + 1) (begun ++ (x ∷ [])) xs
    further n o =
        let d = length-append begun (x ∷ []) in
        let l = w.left in
        let k₁ : 1 ≤ k = omega (arith, n) in
        record {
          is = within begun w.is o;
          some = omega arith;
          short = omega arith;
          begins = ap alnum (head-snoc x begun w.some) ∙ w.begins;
          left = one_fewer k (length begun) (length (begun ++ (x ∷ []))) at k₁ d l;
        }

    -- a dot after a label
    closed : alnum (last 0 begun) ≡ true → x ≡ 46 → InText s (at + 1) [] xs
    closed a e =
        let i = w.is in
        let q = i.place in
        let f = pointed-length i.labels begun in
        let g = pointed-length i.labels (begun ++ (46 ∷ [])) in
        let d = length-append begun (46 ∷ []) in
        let h = ap length (pointed-snoc i.labels begun []) in
        record {
          labels = i.labels ++ (begun ∷ []);
          each =
              all_append Label i.labels (begun ∷ []) i.each
              (record { some = w.some; short = w.short; octets = i.octets; begins = w.begins; ends = a }, tt);
          is = i.is ∙ ap (λ (v : ℕ). pointed i.labels (begun ++ (v ∷ xs))) e ∙ sym (pointed-snoc i.labels begun xs);
          place = omega arith;
          octets = tt;
        }

-- ---- along the walk

module _ (s : List ℕ) (p : ℕ) where
  abbrev Why : Type 0
  Why = TextWhy s p (text_reason s p)

  there : (at : ℕ) → TextWhy s at (text_reason s at) → ◌≡◌ {A = Checked} (Err at) (Err p) → Why
  there at w e = let q : at ≡ p = cc in subst (λ (i : ℕ). TextWhy s i (text_reason s i)) q w

  module _ (at x : ℕ) (xs : List ℕ) (ih : (st : State) → Before s st (at + 1) xs → walk text_automaton st (at + 1) xs ≡ Err p → Why) where
    -- what is shown of each move
    abbrev Moved : Move State → Type 0
    Moved m = on m (Err at) (λ st. walk text_automaton st (at + 1) xs) ≡ Err p → Why

    start-moved : InText s at [] (x ∷ xs) → Moved (step start at x)
    start-moved i =
        by-test (alnum x) (λ b. Moved (cond b (go (letter (after at))) stop))
        (λ a e. ih (letter (after at)) (x ∷ [], opened s at x xs i a, a) e)
        (λ a. there at
        (stop-why s at [] x xs i (λ _ h. absurd (omega arith)) (λ _ h. absurd (omega arith)) (λ b. absurd (true≢false (sym b ∙ a)))))

    module _ (k : ℕ) (begun : List ℕ) (w : Begun s k at begun (x ∷ xs)) where
      -- a letter, a digit or a hyphen that is one too many, and any other octet
      full : (x ≡ 46 → (last 0 begun ≡ 45 → ⊥) → 252 ≤ at) → (x ≡ 45 → k ≤ 1) → (alnum x ≡ true → k ≡ 0) → TextWhy s at (text_reason s at)
      full hd hh ha =
          let l = w.left in
          let m = w.short in
          stop-why s at begun x xs w.is
          (λ e _ n. hd e (λ q. n (last-any 46 0 begun w.some ∙ q)))
          (λ e _. few 1 (hh e))
          (λ a. few 0 (let z = ha a in omega arith))
        where
          few : (j : ℕ) → k ≤ j → (63 - j ≤ length begun) ⊎ (253 - j ≤ at)
          few j h =
              let l = w.left in
              by-test (leb (63 - j) (length begun)) (λ _. (63 - j ≤ length begun) ⊎ (253 - j ≤ at))
              (λ t. inl (leb-true _ _ t))
              (λ t. let g : length begun < 63 - j = leb-false _ _ t in inr (omega arith))

      ends : (z : ℕ) → last 0 (begun ++ (z ∷ [])) ≡ z
      ends z = last-append 0 z begun []

      inside-moved : (other : Move State) → ((alnum x ≡ true → ⊥) → (x ≡ 45 → ⊥) → Moved other) → Moved (inside k x other)
      inside-moved other f =
          let lettered : Move State = cond (eqb k 0) stop (go (letter (k - 1))) in
          let hyphened : Move State = cond (leb k 1) stop (go (hyphen (k - 1))) in
          by-test (alnum x) (λ b. Moved (cond b lettered (cond (eqb x 45) hyphened other)))
          (λ a. by-test (eqb k 0) (λ b. Moved (cond b stop (go (letter (k - 1)))))
          (λ z e. there at (full (λ d. absurd (dotless a d)) (λ q. both x a q) (λ _. eqb-true _ _ z)) e)
          (λ z e. ih (letter (k - 1)) (begun ++ (x ∷ []), further s at x xs begun k w (eqb-false _ _ z) (inl a), ap alnum (ends x) ∙ a) e))
          (λ a. let n : alnum x ≡ true → ⊥ = λ b. true≢false (sym b ∙ a) in
          by-test (eqb x 45) (λ b. Moved (cond b hyphened other))
          (λ t. let q : x ≡ 45 = eqb-true _ _ t in
          by-test (leb k 1) (λ b. Moved (cond b stop (go (hyphen (k - 1)))))
          (λ u e. there at (full (λ d. absurd (omega arith)) (λ _. leb-true _ _ u) (λ b. absurd (n b))) e)
          (λ u e. let l : 1 < k = leb-false _ _ u in
          ih (hyphen (k - 1)) (begun ++ (x ∷ []), further s at x xs begun k w (λ z. omega arith) (inr q), ends x ∙ q, omega arith) e))
          (λ t. f n (eqb-false _ _ t)))
        where
          dotless : alnum x ≡ true → x ≡ 46 → ⊥
          dotless a d = true≢false (sym a ∙ ap alnum d ∙ dot-not-alnum)

      letter-moved : alnum (last 0 begun) ≡ true → Moved (step (letter k) at x)
      letter-moved a =
          inside-moved (dot at x)
          (λ na nh. by-test (eqb x 46) (λ b. Moved (cond b (cond (leb at 251) (go start) stop) stop))
          (λ t. let d : x ≡ 46 = eqb-true _ _ t in
          by-test (leb at 251) (λ b. Moved (cond b (go start) stop))
          (λ u e. ih start (closed s at x xs begun k w a d) e)
          (λ u e. let l : 251 < at = leb-false _ _ u in there at (full (λ _ _. omega arith) (λ q. absurd (nh q)) (λ b. absurd (na b))) e))
          (λ t e. there at (full (λ q. absurd (eqb-false _ _ t q)) (λ q. absurd (nh q)) (λ b. absurd (na b))) e))

      hyphen-moved : last 0 begun ≡ 45 → Moved (step (hyphen k) at x)
      hyphen-moved q =
          inside-moved stop
          (λ na nh e. there at (full (λ _ n. absurd (n q)) (λ h. absurd (nh h)) (λ b. absurd (na b))) e)

    moved : (st : State) → Before s st at (x ∷ xs) → Moved (step st at x)
    moved start i = start-moved i
    moved (letter k) v = letter-moved k v.0 v.1 v.2
    moved (hyphen k) v = hyphen-moved k v.0 v.1 v.2

  at_end : (st : State) (at : ℕ) → Before s st at [] → ended st ≡ false → TextWhy s at (text_reason s at)
  at_end start at i e = end-start s at [] i refl
  at_end (letter k) at v e = absurd (true≢false e)
  at_end (hyphen k) at v e = end-hyphen s at v.0 v.1.is v.1.some v.2

  along : (xs : List ℕ) (st : State) (at : ℕ) → Before s st at xs → walk text_automaton st at xs ≡ Err p → Why
  unfolding walk
  along [] st at v e =
      by-test (ended st) (λ b. cond b (Ok tt) (Err at) ≡ Err p → Why)
      (λ _ g. not_good (sym g))
      (λ t g. there at (at_end st at v t) g)
      e
  along (x ∷ xs) st at v e = moved at x xs (λ st'. along xs st' (at + 1)) st v e

pub text-true : (s : List ℕ) (p : ℕ) → text_check s ≡ Err p → TextWhy s p (text_reason s p)
unfolding text_check
text-true s p e = along s p s start 0 (record { labels = []; each = tt; is = refl; place = refl; octets = tt }) e
