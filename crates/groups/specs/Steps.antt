-- What a character does to a list that stands between groups, within a group or at its end. Assumes nothing.
use Rattle.std.specs.Prelude.{◌≡◌, refl, Bool, true, false, cond, ◌⊎◌, ℕ, eqb}
use Rattle.std.proofs.Common.{sym, ◌∙◌, inl, inr, arith, eqb-true}
use Rattle.std.proofs.lemmas.Bool.{false≢true, eqb-false}
use Rattle.hexes.specs.Hexes.{digit}
use Rattle.inputs.specs.Why as why
use Rattle.groups.specs.declared.Kind.{Kind}
use Rattle.groups.specs.State.{State}
use Rattle.groups.specs.States.{state, fresh, blank, but, digit_on, prefix, digital, begins, within, allowed, close, line, mark, moved}
use Rattle.groups.specs.StatesLaws.{moved-line, moved-blank, moved-marking, marking-mark, marking-within}
use Rattle.groups.specs.Spells.{Ex}
use Rattle.groups.specs.Spells as spells

-- a list in which nothing is out of place
abbrev pub standing : ℕ → ℕ → ℕ → Bool → Bool → Bool → Bool → Bool → State
standing p d o c q m v l = state p d o c q m v l 0

-- ---- the characters of a list

-- x stands between groups
pub data Gap (f : Kind) (x : ℕ) : Type 0 where
  at_break : x ≡ 10 → Gap f x
  at_blank : (x ≡ 10 → ⊥) → blank x ≡ true → Gap f x
  at_mark : (x ≡ 10 → ⊥) → blank x ≡ false → (f.mark ≡ 0 → ⊥) → x ≡ f.mark → Gap f x

-- x stands in a group, if anywhere
pub record Other (f : Kind) (x : ℕ) : Type 0 where
  pub no_break : x ≡ 10 → ⊥
  pub no_blank : blank x ≡ false
  pub no_mark : (f.mark ≡ 0 → ⊥) → x ≡ f.mark → ⊥

pub gap-or-other : (f : Kind) (x : ℕ) → Gap f x ⊎ Other f x
gap-or-other f x = go (eqb x 10) refl (blank x) refl (eqb f.mark 0) refl (eqb x f.mark) refl
  where
    go : (a : Bool) → eqb x 10 ≡ a → (b : Bool) → blank x ≡ b → (c : Bool) → eqb f.mark 0 ≡ c → (d : Bool) → eqb x f.mark ≡ d → Gap f x ⊎ Other f x
    go true a b q c r d s = inl (at_break (eqb-true x 10 a))
    go false a true q c r d s = inl (at_blank (eqb-false x 10 a) q)
    go false a false q false r true s = inl (at_mark (eqb-false x 10 a) q (eqb-false f.mark 0 r) (eqb-true x f.mark s))
    go false a false q true r d s =
        inr record { no_break = eqb-false x 10 a; no_blank = q; no_mark = λ n e. absurd (n (eqb-true f.mark 0 r)) }
    go false a false q false r false s =
        inr record { no_break = eqb-false x 10 a; no_blank = q; no_mark = λ n e. absurd (eqb-false x f.mark s e) }

-- ---- between groups

-- the character x past a list between groups
abbrev pub past : {f : Kind} {x : ℕ} → Gap f x → State → State
past {f} (at_break e) s = line f s
past {f} (at_blank n b) s = s
past {f} (at_mark n b m e) s = mark s

pub gap-moved : {f : Kind} {x : ℕ} (g : Gap f x) (s : State) → moved f x s ≡ past g (close f (fresh s))
gap-moved {f} {x} (at_break e) s = sym (moved-line f x s e)
gap-moved {f} {x} (at_blank n b) s = sym (moved-blank f x s n b)
gap-moved {f} {x} (at_mark n b m e) s = sym (marking-mark f x (fresh s) m e ∙ moved-marking f x s n b)

pub past-good : {f : Kind} {x : ℕ} (g : Gap f x) (s : State) → (past g s).why ≡ 0 → s.why ≡ 0
past-good (at_break e) s z = z
past-good (at_blank p b) s z = z
past-good (at_mark p b m e) s z = go s.after refl z
  where
    go : (q : Bool) → s.after ≡ q → (mark s).why ≡ 0 → s.why ≡ 0
    go true q z = rw q at z
    go false q z = let y : why.form ≡ 0 = rw q at z in absurd (omega arith)

-- ---- the end of a group

-- a wide group is allowed, where several have stood or not
pub data Allowed (f : Kind) (several wide : Bool) : Type 0 where
  narrow : wide ≡ false → Allowed f several wide
  by_line : several ≡ false → f.lines ≡ true → Allowed f several wide
  by_list : several ≡ false → f.lines ≡ false → f.whole ≡ true → Allowed f several wide

module _ (f : Kind) (o : ℕ) (c q m : Bool) where
  pub allowed-is : (v l : Bool) → Allowed f v l → allowed f (standing 0 0 o c q m v l) ≡ standing 0 0 o c q m v l
  allowed-is v true (narrow e) = absurd (false≢true (sym e))
  allowed-is v true (by_line p e) = rw (p, e)
  allowed-is v true (by_list p e w) = rw (p, e, w)
  allowed-is v false a = refl

  pub allowed-says : (v l : Bool) → (allowed f (standing 0 0 o c q m v l)).why ≡ 0 → Allowed f v l
  allowed-says v false z = narrow refl
  allowed-says true true z = absurd (omega arith)
  allowed-says false true z = go f.lines refl f.whole refl z
    where
      go : (a : Bool) → f.lines ≡ a → (b : Bool) → f.whole ≡ b
          → (cond a (standing 0 0 o c q m false true) (cond b (standing 0 0 o c q m false true) (but why.groups (standing 0 0 o c q m false true)))).why ≡ 0
          → Allowed f false true
      go true a b w z = by_line refl a
      go false a true w z = by_list refl a w
      go false a false w z = absurd (omega arith)

pub allowed-good : (f : Kind) (s : State) → (allowed f s).why ≡ 0 → s.why ≡ 0
allowed-good f s = go s.wide s.several f.lines f.whole
  where
    go : (l v a b : Bool) → (cond l (cond v (but why.groups s) (cond a s (cond b s (but why.groups s)))) s).why ≡ 0 → s.why ≡ 0
    go false v a b z = z
    go true true a b z = absurd (omega arith)
    go true false true b z = z
    go true false false true z = z
    go true false false false z = absurd (omega arith)

-- ---- within a group

module _ {f : Kind} {x : ℕ} (i : Other f x) where
  pub other-moved : (s : State) → moved f x s ≡ within f x (fresh s)
  other-moved s = sym (marking-within f x (fresh s) i.no_mark ∙ moved-marking f x s i.no_break i.no_blank)

module _ (f : Kind) (x : ℕ) (s : State) where
  pub within-says : (within f x s).why ≡ 0 → (f.marked ≡ true → s.after ≡ false) × (within f x s ≡ begins f x s)
  within-says = go f.marked refl s.after refl
    where
      go : (m : Bool) → f.marked ≡ m → (q : Bool) → s.after ≡ q → (cond m (cond q (but why.form s) (begins f x s)) (begins f x s)).why ≡ 0
          → (m ≡ true → q ≡ false) × (cond m (cond q (but why.form s) (begins f x s)) (begins f x s) ≡ begins f x s)
      go true m true q z = absurd (omega arith)
      go true m false q z = ((λ e. refl), refl)
      go false m q p z = ((λ e. absurd (false≢true e)), refl)

  pub digital-says : (digital x s).why ≡ 0 → (digit x ≡ true) × (digital x s ≡ digit_on x s)
  digital-says = go (digit x) refl
    where
      go : (d : Bool) → digit x ≡ d → (cond d (digit_on x s) (but why.form s)).why ≡ 0 → (d ≡ true) × (cond d (digit_on x s) (but why.form s) ≡ digit_on x s)
      go true d z = (refl, refl)
      go false d z = absurd (omega arith)

module _ (x o : ℕ) (c q m v l : Bool) where
  pub zero-says : (prefix x (standing 0 0 o c q m v l)).why ≡ 0 → (x ≡ 48) × (prefix x (standing 0 0 o c q m v l) ≡ standing 1 0 o c q m v l)
  zero-says = go (eqb x 48) refl
    where
      go : (b : Bool) → eqb x 48 ≡ b → (cond b (standing 1 0 o c q m v l) (but why.form (standing 0 0 o c q m v l))).why ≡ 0
          → (x ≡ 48) × (cond b (standing 1 0 o c q m v l) (but why.form (standing 0 0 o c q m v l)) ≡ standing 1 0 o c q m v l)
      go true b z = (eqb-true x 48 b, refl)
      go false b z = absurd (omega arith)

  pub ex-says : (prefix x (standing 1 0 o c q m v l)).why ≡ 0 → Ex x × (prefix x (standing 1 0 o c q m v l) ≡ standing 2 0 o c q m v l)
  ex-says = go (eqb x 120) refl (eqb x 88) refl
    where
      go : (a : Bool) → eqb x 120 ≡ a → (b : Bool) → eqb x 88 ≡ b
          → (cond a (standing 2 0 o c q m v l) (cond b (standing 2 0 o c q m v l) (but why.form (standing 1 0 o c q m v l)))).why ≡ 0
          → Ex x × (cond a (standing 2 0 o c q m v l) (cond b (standing 2 0 o c q m v l) (but why.form (standing 1 0 o c q m v l))) ≡ standing 2 0 o c q m v l)
      go true a b p z = (spells.lower (eqb-true x 120 a), refl)
      go false a true p z = (spells.upper (eqb-true x 88 p), refl)
      go false a false p z = absurd (omega arith)
