-- The laws of the states of a dump. Assumes nothing.
use Rattle.std.specs.Prelude.{◌≡◌, refl, Bool, true, false, List, ℕ, ◌≤◌, ◌<◌, ltb, length, get_or, take}
use Rattle.std.proofs.Common.{ap, ltb-true, ltb-false, length-take-le}
use Rattle.std.proofs.lemmas.List.{get_or-take}
use borrow.Author.Tests.{le-leb, lt-leb, eq-eqb, ne_eqb}
use Rattle.inputs.specs.Why as why
use Rattle.dumps.specs.declared.Style.{Style}
use Rattle.dumps.specs.State.{State}
use Rattle.dumps.specs.Class.{Class, Break, Blank, Digit, Other}
use Rattle.dumps.specs.Mode as mode
use Rattle.dumps.specs.States.{class_of, but, to, opened, filled, counted, star_at, high, closed, cut, octet}
use Rattle.dumps.specs.States.{shown_of, beside, more_by, text, behind, moved}

-- ---- an offset that is whole

module _ (f : Style) (n : ℕ) (s : State) where
  pub counted-short : (s.digits ≡ f.digits → ⊥) → but why.form s ≡ counted f n s
  unfolding counted
  counted-short d = rw (ne_eqb s.digits f.digits d)

  module _ (d : s.digits ≡ f.digits) where
    module _ (t : s.star ≡ true) where
      pub counted-less : s.value ≤ n → but why.offset s ≡ counted f n s
      unfolding counted
      counted-less h = rw (eq-eqb s.digits f.digits d, t, le-leb s.value n h)

      pub counted-star : n < s.value → opened s.value (filled s.value s) ≡ counted f n s
      unfolding counted
      counted-star h = rw (eq-eqb s.digits f.digits d, t, lt-leb s.value n h)

    module _ (t : s.star ≡ false) where
      pub counted-other : (s.value ≡ n → ⊥) → but why.offset s ≡ counted f n s
      unfolding counted
      counted-other h = rw (eq-eqb s.digits f.digits d, t, ne_eqb s.value n h)

      pub counted-here : s.value ≡ n → opened n s ≡ counted f n s
      unfolding counted
      counted-here h = rw (eq-eqb s.digits f.digits d, t, eq-eqb s.value n h)

-- ---- a star

module _ (x : ℕ) (s : State) where
  pub star-other : (x ≡ 42 → ⊥) → but why.form s ≡ star_at x s
  unfolding star_at
  star-other h = rw (ne_eqb x 42 h)

  module _ (h : x ≡ 42) where
    pub star-late : s.ended ≡ true → but why.form s ≡ star_at x s
    unfolding star_at
    star-late g = rw (eq-eqb x 42 h, g)

    module _ (g : s.ended ≡ false) where
      pub star-twice : s.star ≡ true → but why.form s ≡ star_at x s
      unfolding star_at
      star-twice t = rw (eq-eqb x 42 h, g, t)

      pub star-early : s.star ≡ false → s.line ≤ s.before → but why.form s ≡ star_at x s
      unfolding star_at
      star-early t l = rw (eq-eqb x 42 h, g, t, le-leb s.line s.before l)

      pub star-stands : s.star ≡ false → s.before < s.line → to mode.star s ≡ star_at x s
      unfolding star_at
      star-stands t l = rw (eq-eqb x 42 h, g, t, lt-leb s.line s.before l)

-- ---- a digit after an octet

module _ (f : Style) (x n : ℕ) (s : State) (d : class_of x ≡ Digit) where
  pub octet-second : f.pairs ≡ true → s.second ≡ false → high true x s ≡ octet f x n s
  octet-second p g = rw (d, p, g)

-- ---- a line that ends without a text column

module _ (f : Style) (n : ℕ) (s : State) where
  pub cut-blank : s.solid ≤ s.line → closed n s ≡ cut f n s
  unfolding cut
  cut-blank h = rw (le-leb s.solid s.line h)

  module _ (h : s.line < s.solid) where
    pub cut-asked : f.column ≡ true → but why.column s ≡ cut f n s
    unfolding cut
    cut-asked k = rw (lt-leb s.solid s.line h, k)

    module _ (k : f.column ≡ false) where
      pub cut-stood : s.column ≡ true → but why.column s ≡ cut f n s
      unfolding cut
      cut-stood l = rw (lt-leb s.solid s.line h, k, l)

      pub cut-none : s.column ≡ false → closed n s ≡ cut f n s
      unfolding cut
      cut-none l = rw (lt-leb s.solid s.line h, k, l)

-- ---- the octet that the text column shows next

module _ (f : Style) (x n : ℕ) (s : State) (b c : ℕ) where
  beside-past : n ≤ s.beside → beside f x n b s ≡ beside f x n c s
  unfolding beside
  beside-past h = rw (le-leb n s.beside h) refl

  more-past : beside f x n b s ≡ beside f x n c s → (k : Class) → more_by k f x n b s ≡ more_by k f x n c s
  more-past e Break = refl
  more-past e Blank = refl
  more-past e Digit = rw e refl
  more-past e Other = rw e refl

  -- past the last there is none to show
  moved-past : n ≤ s.beside → moved f x n b s ≡ moved f x n c s
  unfolding moved behind text
  moved-past h = rw (more-past (beside-past h) (class_of x), beside-past h) refl

-- the column shows another character
pub beside-other : (f : Style) (x n b : ℕ) (s : State) → s.beside < n → (x ≡ shown_of f.prefix b → ⊥) → but why.column s ≡ beside f x n b s
unfolding beside
beside-other f x n b s h d = rw (lt-leb n s.beside h, ne_eqb x (shown_of f.prefix b) d)

-- it is one of the octets so far
pub moved-laid : (f : Style) (x n : ℕ) (s : State) (out laid : List ℕ) → laid ≡ take n out → n ≤ length out
    → moved f x (length laid) (get_or laid s.beside 0) s ≡ moved f x n (get_or out s.beside 0) s
moved-laid f x n s out laid e h = rw (e, length-take-le n out h) (go (ltb s.beside n) refl)
  where
    go : (p : Bool) → ltb s.beside n ≡ p → moved f x n (get_or (take n out) s.beside 0) s ≡ moved f x n (get_or out s.beside 0) s
    go true p = ap (λ (b : ℕ). moved f x n b s) (get_or-take n out s.beside 0 (ltb-true s.beside n p))
    go false p = moved-past f x n s (get_or (take n out) s.beside 0) (get_or out s.beside 0) (ltb-false s.beside n p)
