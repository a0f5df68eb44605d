-- A C array is read as the octets of its list where only what `Follows` says stands after its closing brace. Assumes nothing.
use Rattle.std.specs.Prelude.{◌≡◌, Bool, true, false, cond, List, [], ◌∷◌, ◌++◌, ℕ, ◌+◌, ◌-◌, ◌*◌, ◌≤◌, eqb, length}
use Rattle.std.proofs.Math.Path.{refl}
use Rattle.std.proofs.Common.{sym, ap, ◌∙◌, arith}
use Rattle.std.proofs.Math.Bool.{false≢true}
use borrow.Author.Tests.{eqb-true, eq-eqb, le-ltb, lt-leb}
use Rattle.std.proofs.lemmas.List.{drop-append-le}
use Rattle.inputs.specs.Read.{Octets}
use Rattle.forms.specs.Arrays.{After}
use Rattle.forms.specs.Places.{blank}
use Rattle.forms.specs.Arrays.{decimal, letter, word, tail, begun, digit_on, digits, early, late, after, ended_of, tail_from, tail_of, closed_of}
use Rattle.forms.specs.Arrays.{closing, listed, read_of}
use Rattle.forms.specs.Follows as follows
use Rattle.forms.specs.Follows.{Spaced, here, blanks, Ended, Closed, Digits, Counted, Words, Declared, Follows, Alone}

-- a blank is no digit, and stands in no word
blank-other : (x : ℕ) → blank x ≡ true → (decimal x ≡ false) × (word x ≡ false)
unfolding decimal word letter
blank-other x = go (eqb x 32) refl (eqb x 9) refl (eqb x 13) refl (eqb x 10) refl
  where
    go : (a : Bool) → eqb x 32 ≡ a → (b : Bool) → eqb x 9 ≡ b → (c : Bool) → eqb x 13 ≡ c → (d : Bool) → eqb x 10 ≡ d
        → cond a true (cond b true (cond c true d)) ≡ true → (decimal x ≡ false) × (word x ≡ false)
    go true p b q c r d s e = rw (eqb-true x 32 p) (refl, refl)
    go false p true q c r d s e = rw (eqb-true x 9 q) (refl, refl)
    go false p false q true r d s e = rw (eqb-true x 13 r) (refl, refl)
    go false p false q false r true s e = rw (eqb-true x 10 s) (refl, refl)
    go false p false q false r false s e = absurd (false≢true e)

module _ (x : ℕ) where
  digit-blank : decimal x ≡ true → blank x ≡ false
  digit-blank p = go (blank x) refl
    where
      go : (b : Bool) → blank x ≡ b → b ≡ false
      go true q = absurd (false≢true (sym (blank-other x q).0 ∙ p))
      go false q = refl

  word_blank : word x ≡ true → blank x ≡ false
  word_blank p = go (blank x) refl
    where
      go : (b : Bool) → blank x ≡ b → b ≡ false
      go true q = absurd (false≢true (sym (blank-other x q).1 ∙ p))
      go false q = refl

  -- what follows the digits does not begin with one
  digit-over : {t : List ℕ} → decimal x ≡ true → Spaced Closed (x ∷ t) → ⊥
  unfolding decimal
  digit-over p (here (follows.close e s)) = false≢true (sym (ap decimal e) ∙ p)
  digit-over p (blanks q s) = false≢true (sym (blank-other x q).0 ∙ p)

digits-below : {n l : ℕ} {t : List ℕ} → Digits n l t → l ≤ n
digits-below (follows.all e s) = omega arith
digits-below (follows.digit p d) = let q = digits-below d in omega arith

module _ (n size : ℕ) (few : n ≤ 65535) where
  -- the characters t, and the line break after them, are read as n octets from a phase on
  abbrev ReadOn : After → ℕ → List ℕ → Type 0
  ReadOn s i t = tail_from s n size i (t ++ (10 ∷ [])) ≡ Octets n

  step : (p l i : ℕ) (s : After) (x : ℕ) (t : List ℕ) → after x n s ≡ tail p l 0 → ReadOn (tail p l 0) (i + 1) t → ReadOn s i (x ∷ t)
  unfolding tail_from
  step p l i s x t e r = rw e r

  -- blanks stay, but for those after the length
  stays : (p l x : ℕ) → eqb p 4 ≡ false → blank x ≡ true → after x n (tail p l 0) ≡ tail p l 0
  unfolding after
  stays p l x e b = rw (e, b)

  ends : {t : List ℕ} → Spaced Ended t → (l i : ℕ) → ReadOn (tail 6 l 0) i t
  unfolding tail_from after ended_of
  ends (here follows.end) l i = refl
  ends (blanks {x} {t} p s) l i = step 6 l i (tail 6 l 0) x t (stays 6 l x refl p) (ends s l (i + 1))

  close-step : (x l : ℕ) → x ≡ 59 → after x n (tail 5 l 0) ≡ tail 6 l 0
  unfolding after late
  close-step x l e = rw e

  closes : {t : List ℕ} → Spaced Closed t → (l i : ℕ) → ReadOn (tail 5 l 0) i t
  closes (here (follows.close {x} {t} e s)) l i = step 6 l i (tail 5 l 0) x t (close-step x l e) (ends s l (i + 1))
  closes (blanks {x} {t} p s) l i = step 5 l i (tail 5 l 0) x t (stays 5 l x refl p) (closes s l (i + 1))

  count-close : (x l : ℕ) → l ≡ n → x ≡ 59 → after x n (tail 4 l 0) ≡ tail 6 l 0
  unfolding after digits decimal
  count-close x l e f = rw (f, eq-eqb l n e)

  count-blank : (x l : ℕ) → l ≡ n → blank x ≡ true → after x n (tail 4 l 0) ≡ tail 5 l 0
  unfolding after digits
  count-blank x l e p = rw ((blank-other x p).0, eq-eqb l n e, p)

  count-digit : (x l : ℕ) → l ≤ 65535 → decimal x ≡ true → after x n (tail 4 l 0) ≡ tail 4 (10 * l + (x - 48)) 0
  unfolding after digits
  count-digit x l h p = rw (p, le-ltb 65535 l h)

  over : {t : List ℕ} (l : ℕ) → l ≡ n → Spaced Closed t → (i : ℕ) → ReadOn (tail 4 l 0) i t
  over l e (here (follows.close {x} {t} f s)) i = step 6 l i (tail 4 l 0) x t (count-close x l e f) (ends s l (i + 1))
  over l e (blanks {x} {t} p s) i = step 5 l i (tail 4 l 0) x t (count-blank x l e p) (closes s l (i + 1))

  counts : {l : ℕ} {t : List ℕ} → Digits n l t → (i : ℕ) → ReadOn (tail 4 l 0) i t
  counts {l} (follows.all e s) i = over l e s i
  counts {l} (follows.digit {x = x} {t = t} p d) i =
      let q = digits-below d in
      step 4 (10 * l + (x - 48)) i (tail 4 l 0) x t (count-digit x l (omega (arith, few)) p) (counts d (i + 1))

  number-digit : (x : ℕ) → decimal x ≡ true → after x n (tail 3 0 0) ≡ tail 4 (10 * 0 + (x - 48)) 0
  unfolding after late
  number-digit x p = rw (digit-blank x p, p)

  first : (x : ℕ) (t : List ℕ) → decimal x ≡ true → Digits n 0 (x ∷ t) → (i : ℕ) → ReadOn (tail 3 0 0) i (x ∷ t)
  first x t p (follows.all e s) i = absurd (digit-over x p s)
  first x t p (follows.digit q d) i = step 4 (10 * 0 + (x - 48)) i (tail 3 0 0) x t (number-digit x p) (counts d (i + 1))

  numbers : {t : List ℕ} → Spaced (Counted n) t → (i : ℕ) → ReadOn (tail 3 0 0) i t
  numbers (here (follows.number {x} {t} p d)) i = first x t p d i
  numbers (blanks {x} {t} p s) i = step 3 0 i (tail 3 0 0) x t (stays 3 0 x refl p) (numbers s (i + 1))

  word-step : (x : ℕ) → word x ≡ true → after x n (tail 2 0 0) ≡ tail 2 0 0
  unfolding after early
  word-step x p = rw (word_blank x p, p)

  equals-step : (x : ℕ) → x ≡ 61 → after x n (tail 2 0 0) ≡ tail 3 0 0
  unfolding after early word decimal letter
  equals-step x e = rw e

  words : {t : List ℕ} → Words n t → (i : ℕ) → ReadOn (tail 2 0 0) i t
  words (follows.space {x} {t} p w) i = step 2 0 i (tail 2 0 0) x t (stays 2 0 x refl p) (words w (i + 1))
  words (follows.letter {x} {t} p w) i = step 2 0 i (tail 2 0 0) x t (word-step x p) (words w (i + 1))
  words (follows.equals {x} {t} e s) i = step 3 0 i (tail 2 0 0) x t (equals-step x e) (numbers s (i + 1))

  word_first : (x : ℕ) → word x ≡ true → after x n (tail 1 0 0) ≡ tail 2 0 0
  unfolding after early
  word_first x p = rw (word_blank x p, p)

  declares : {t : List ℕ} → Spaced (Declared n) t → (i : ℕ) → ReadOn (tail 1 0 0) i t
  unfolding tail_from after ended_of
  declares (here follows.none) i = refl
  declares (here (follows.declaration {x} {t} p w)) i = step 2 0 i (tail 1 0 0) x t (word_first x p) (words w (i + 1))
  declares (blanks {x} {t} p s) i = step 1 0 i (tail 1 0 0) x t (stays 1 0 x refl p) (declares s (i + 1))

  semicolon-step : (x : ℕ) → x ≡ 59 → after x n begun ≡ tail 1 0 0
  unfolding after early
  semicolon-step x e = rw e

  reads : {t : List ℕ} → Follows n t → (i : ℕ) → ReadOn begun i t
  unfolding tail_from after ended_of
  reads (here follows.nothing) i = refl
  reads (here (follows.semicolon {x} {t} e s)) i = step 1 0 i begun x t (semicolon-step x e) (declares s (i + 1))
  reads (blanks {x} {t} p s) i = step 0 0 i begun x t (stays 0 0 x refl p) (reads s (i + 1))

closed-read : (k n : ℕ) (t : List ℕ) → n ≤ 65535 → Alone k n t → closed_of k n t ≡ Octets n
unfolding closed_of tail_of
closed-read k n t h a =
    let c = a.closed in
    let l : k + 1 ≤ length t = omega (arith, c) in
    rw (lt-leb (length t) k c, drop-append-le (k + 1) t (10 ∷ []) l) (reads n (length t) h a.rest (k + 1))

module _ (brace : ℕ) (t out : List ℕ) {m : ℕ} where
  -- an array that stands alone is read as the octets of its list
  pub alone-array : (listed (brace + 1) t out).read ≡ Octets m → m ≤ 65535 → Alone (closing (brace + 1) t) m t → read_of brace t out ≡ Octets m
  unfolding read_of
  alone-array p h a = rw p (closed-read (closing (brace + 1) t) m t h a)
