-- Where each test of a list's state leads. Assumes nothing.
use Rattle.std.specs.Prelude.{◌≡◌, refl, Bool, true, false, cond, ℕ, ◌+◌, ◌*◌, ◌%◌, ◌<◌, ◌≤◌, ltb, eqb}
use Rattle.std.proofs.Common.{ap, ◌∙◌, arith}
use borrow.Author.Tests.{eq-eqb, ne_eqb, lt-ltb, le-ltb, eqb-false}
use Rattle.hexes.specs.Hexes.{digit}
use Rattle.hexes.specs.Hexes as hexes
use Rattle.inputs.specs.Why as why
use Rattle.groups.specs.declared.Kind.{Kind}
use Rattle.groups.specs.State.{State}
use Rattle.groups.specs.States.{state, fresh, blank, but, more, waiting, completing, digit_on, prefix, digital, begins, within}
use Rattle.groups.specs.States.{ended, ended_one, allowed, close, line, mark, marking, moved}

-- ---- a group

module _ (d v x : ℕ) (s : State) (e : d ≡ more s.digits) (w : v ≡ hexes.value x) where
  pub digit-first : d % 2 ≡ 1
      → state s.front d v s.complete s.after s.some s.several s.wide s.why ≡ digit_on x s
  digit-first o =
      ap (λ (n : ℕ). state s.front d n s.complete s.after s.some s.several s.wide s.why) w
      ∙ rw (eq-eqb (d % 2) 1 o) refl
      ∙ ap (λ (n : ℕ). cond (eqb (n % 2) 1) (waiting n x s) (completing n x s)) e

  pub digit-second : (d % 2 ≡ 1 → ⊥)
      → state s.front d (s.octet % 16 * 16 + v) true s.after s.some s.several s.wide s.why ≡ digit_on x s
  digit-second o =
      ap (λ (n : ℕ). state s.front d (s.octet % 16 * 16 + n) true s.after s.some s.several s.wide s.why) w
      ∙ rw (ne_eqb (d % 2) 1 o) refl
      ∙ ap (λ (n : ℕ). cond (eqb (n % 2) 1) (waiting n x s) (completing n x s)) e

module _ (f : Kind) (x : ℕ) (s : State) where
  pub within-after : f.marked ≡ true → s.after ≡ true → but why.form s ≡ within f x s
  within-after m a = rw (m, a)

  pub within-begins : (f.marked ≡ true → s.after ≡ false) → begins f x s ≡ within f x s
  within-begins a = go f.marked refl
    where
      go : (m : Bool) → f.marked ≡ m → begins f x s ≡ cond m (cond s.after (but why.form s) (begins f x s)) (begins f x s)
      go true m = rw (a m)
      go false m = refl

  pub begins-prefix : f.prefix ≡ true → s.front < 2 → prefix x s ≡ begins f x s
  begins-prefix p l = rw (p, lt-ltb s.front 2 l)

  pub digital-digit : digit x ≡ true → digit_on x s ≡ digital x s
  digital-digit d = rw d

  pub digital-other : digit x ≡ false → but why.form s ≡ digital x s
  digital-other d = rw d

  pub begins-digital : (f.prefix ≡ true → 2 ≤ s.front) → digital x s ≡ begins f x s
  begins-digital l = go f.prefix refl
    where
      go : (p : Bool) → f.prefix ≡ p → digital x s ≡ cond p (cond (ltb s.front 2) (prefix x s) (digital x s)) (digital x s)
      go true p = rw (le-ltb s.front 2 (l p))
      go false p = refl

-- ---- between groups

pub blank-last : (x : ℕ) → (x ≡ 32 → ⊥) → (x ≡ 9 → ⊥) → (x ≡ 13 → ⊥) → eqb x 10 ≡ blank x
blank-last x a b c = rw (ne_eqb x 32 a, ne_eqb x 9 b, ne_eqb x 13 c)

pub mark-none : (s : State) → s.after ≡ false → but why.form s ≡ mark s
mark-none s a = rw a

module _ (f : Kind) (x : ℕ) (s : State) where
  pub moved-line : x ≡ 10 → line f (close f (fresh s)) ≡ moved f x s
  unfolding moved
  moved-line e = rw (eq-eqb x 10 e)

  module _ (n : x ≡ 10 → ⊥) where
    pub moved-blank : blank x ≡ true → close f (fresh s) ≡ moved f x s
    unfolding moved
    moved-blank b = rw (b, ne_eqb x 10 n)

    module _ (b : blank x ≡ false) where
      pub moved-marking : marking f x (fresh s) ≡ moved f x s
      unfolding moved
      moved-marking = rw (b, ne_eqb x 10 n)

module _ (f : Kind) (x : ℕ) (s : State) where
  pub marking-mark : (f.mark ≡ 0 → ⊥) → x ≡ f.mark → mark (close f s) ≡ marking f x s
  marking-mark n e = rw (ne_eqb f.mark 0 n, eq-eqb x f.mark e)

  pub marking-within : ((f.mark ≡ 0 → ⊥) → x ≡ f.mark → ⊥) → within f x s ≡ marking f x s
  marking-within n = go (eqb f.mark 0) refl
    where
      go : (b : Bool) → eqb f.mark 0 ≡ b → within f x s ≡ cond b (within f x s) (cond (eqb x f.mark) (mark (close f s)) (within f x s))
      go true b = refl
      go false b = rw (ne_eqb x f.mark (n (eqb-false f.mark 0 b)))

-- ---- the end of a group

module _ (f : Kind) (s : State) where
  pub close-none : s.digits ≡ 0 → s.front ≡ 0 → s ≡ close f s
  close-none d p = rw (eq-eqb s.digits 0 d, eq-eqb s.front 0 p)

  pub close-front : s.digits ≡ 0 → (s.front ≡ 0 → ⊥) → but why.form s ≡ close f s
  close-front d p = rw (eq-eqb s.digits 0 d, ne_eqb s.front 0 p)

  pub close-one : s.digits ≡ 1 → allowed f (ended_one f s) ≡ close f s
  close-one d = rw (ne_eqb s.digits 0 (λ z. absurd (omega arith)), eq-eqb s.digits 1 d)

  pub close-odd : s.digits ≡ 3 → but why.form s ≡ close f s
  close-odd d = rw (ne_eqb s.digits 0 (λ z. absurd (omega arith)), ne_eqb s.digits 1 (λ z. absurd (omega arith)), eq-eqb s.digits 3 d)

  pub close-even : (s.digits ≡ 0 → ⊥) → (s.digits ≡ 1 → ⊥) → (s.digits ≡ 3 → ⊥) → allowed f (ended (ltb 2 s.digits) s) ≡ close f s
  close-even m n o = rw (ne_eqb s.digits 0 m, ne_eqb s.digits 1 n, ne_eqb s.digits 3 o)

  pub allowed-narrow : s.wide ≡ false → s ≡ allowed f s
  allowed-narrow w = rw w

  module _ (w : s.wide ≡ true) where
    pub allowed-several : s.several ≡ true → but why.groups s ≡ allowed f s
    allowed-several v = rw (w, v)

    module _ (v : s.several ≡ false) where
      pub allowed-lines : f.lines ≡ true → s ≡ allowed f s
      allowed-lines l = rw (w, v, l)

      module _ (l : f.lines ≡ false) where
        pub allowed-whole : f.whole ≡ true → s ≡ allowed f s
        allowed-whole h = rw (w, v, l, h)

        pub allowed-not : f.whole ≡ false → but why.groups s ≡ allowed f s
        allowed-not h = rw (w, v, l, h)
