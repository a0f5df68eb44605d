-- What is spelled is read: groups of octets, and what stands between them, complete those octets. Assumes nothing.
use Rattle.std.specs.Prelude.{◌≡◌, refl, Bool, true, false, cond, List, [], ◌∷◌, ◌++◌, ℕ, suc, ◌+◌, ◌*◌, ◌%◌, ◌≤◌, ◌<◌, ltb, length}
use Rattle.std.proofs.Common.{sym, ap, ◌∙◌, subst, append_assoc, arith, eq-eqb, lt-ltb}
use Rattle.std.proofs.lemmas.Bool.{false≢true}
use Rattle.octets.specs.Lists.{flat}
use Rattle.hexes.specs.Hexes.{value}
use Rattle.hexes.specs.Spelled.{Digit, decimal, upper, lower}
use Rattle.hexes.specs.Exactly.{digit-is}
use Rattle.groups.specs.declared.Kind.{Kind}
use Rattle.groups.specs.State.{State}
use Rattle.groups.specs.States.{fresh, blank, digit_on, prefix, allowed, close, moved}
use Rattle.groups.specs.StatesLaws.{within-begins, begins-prefix, begins-digital, digital-digit}
use Rattle.groups.specs.Spells.{Blank, Mark, Ex, Proper, Pairs, Digits, Group, Ends, Listed}
use Rattle.groups.specs.Spells as spells
use Rattle.groups.specs.Runs.{Runs, RunsOn}
use Rattle.groups.specs.Steps.{standing, Gap, Other, past, gap-moved, Allowed, allowed-is, other-moved}
use Rattle.groups.specs.Steps as steps
use Rattle.groups.specs.Sound.{Fits, blank-says, digit-under}
use Rattle.groups.specs.Sound as sound

-- ---- characters

blank-under : {x : ℕ} → Blank x → (x ≡ 10 → ⊥) × (x < 48)
blank-under (spells.space e) = ((λ n. absurd (omega arith)), omega arith)
blank-under (spells.tab e) = ((λ n. absurd (omega arith)), omega arith)
blank-under (spells.carriage_return e) = ((λ n. absurd (omega arith)), omega arith)

blank-is : {x : ℕ} → Blank x → blank x ≡ true
blank-is (spells.space e) = rw e
blank-is (spells.tab e) = rw e
blank-is (spells.carriage_return e) = rw e

blank-not : (x : ℕ) → (x ≡ 10 → ⊥) → (Blank x → ⊥) → blank x ≡ false
blank-not x n h = go (blank x) refl
  where
    go : (b : Bool) → blank x ≡ b → b ≡ false
    go true e = absurd (h (blank-says x n e))
    go false e = refl

abbrev gap_blank : {f : Kind} {x : ℕ} → Blank x → Gap f x
gap_blank b = steps.at_blank (blank-under b).0 (blank-is b)

module _ {f : Kind} (p : Proper f) where
  abbrev gap_mark : {x : ℕ} → Mark f x → Gap f x
  gap_mark {x} m =
      let n : x ≡ 10 → ⊥ = λ e. p.no_break (sym m.is ∙ e) in
      steps.at_mark n (blank-not x n (λ b. p.no_blank (subst Blank m.is b))) m.some m.is

  other-above : {x : ℕ} → 48 ≤ x → (x ≡ f.mark → ⊥) → Other f x
  other-above {x} h n =
      record {
        no_break = λ e. absurd (omega arith);
        no_blank = blank-not x (λ e. absurd (omega arith)) (λ b. let u = (blank-under b).1 in absurd (omega arith));
        no_mark = λ m e. n e;
      }

  other-digit : {x v : ℕ} → Digit x v → Other f x
  other-digit {x} {v} d = other-above (above d) (λ e. p.no_digit v (subst (λ (y : ℕ). Digit y v) e d))
    where
      above : {x v : ℕ} → Digit x v → 48 ≤ x
      above (decimal h e) = omega arith
      above (upper h k e) = omega arith
      above (lower h k e) = omega arith

  other-ex : {x : ℕ} → Ex x → Other f x
  other-ex {x} e = other-above (above e) (λ m. p.no_ex (subst Ex m e))
    where
      above : {x : ℕ} → Ex x → 48 ≤ x
      above (spells.lower e) = omega arith
      above (spells.upper e) = omega arith

-- ---- the end of a group

-- the octet that was complete before does not matter
kept : (f : Kind) (p d o : ℕ) (c k q m v l : Bool) (xs bs : List ℕ) → Runs f (standing p d o c q m v l) xs bs → Runs f (standing p d o k q m v l) xs bs
unfolding moved
kept f p d o c k q m v l [] bs r = r
kept f p d o c k q m v l (x ∷ xs) bs r = r

module _ {f : Kind} where
  gap-kept : {x : ℕ} (o : ℕ) (m v l : Bool) (xs bs : List ℕ) (g : Gap f x) → RunsOn f (past g (standing 0 0 o false true m v l)) xs bs
      → RunsOn f (past g (standing 0 0 o true true m v l)) xs (o ∷ bs)
  gap-kept o m v l xs bs (steps.at_break e) r =
      (refl, r.1, kept f 0 0 o false true false (cond f.lines false m) v l xs r.1 r.2, ap (λ (y : List ℕ). o ∷ y) r.3)
  gap-kept o m v l xs bs (steps.at_blank n b) r =
      (refl, r.1, kept f 0 0 o false true true m v l xs r.1 r.2, ap (λ (y : List ℕ). o ∷ y) r.3)
  gap-kept o m v l xs bs (steps.at_mark n b k e) r =
      (refl, r.1, kept f 0 0 o false true false m v l xs r.1 r.2, ap (λ (y : List ℕ). o ∷ y) r.3)

-- the first character after a group
record Gapped (f : Kind) (t : List ℕ) : Type 0 where
  pub x : ℕ
  pub xs : List ℕ
  pub are : t ≡ x ∷ xs
  pub gap : Gap f x

gapped : {f : Kind} {t : List ℕ} → Proper f → Ends f t → Gapped f (t ++ (10 ∷ []))
gapped p spells.at_end = record { x = 10; xs = []; are = refl; gap = steps.at_break refl }
gapped p (spells.at_blank {x} {t} b) = record { x = x; xs = t ++ (10 ∷ []); are = refl; gap = gap_blank b }
gapped p (spells.at_break {x} {t} e) = record { x = x; xs = t ++ (10 ∷ []); are = refl; gap = steps.at_break e }
gapped p (spells.at_mark {x} {t} m) = record { x = x; xs = t ++ (10 ∷ []); are = refl; gap = gap_mark p m }

module _ {f : Kind} where
  -- a group whose pairs are complete, and one of a single digit
  shut-pairs : {t : List ℕ} (bs : List ℕ) (s u : State) → Gapped f t → close f (fresh s) ≡ close f (fresh u) → Runs f u t bs → Runs f s t bs
  shut-pairs {t} bs s u g e r =
      let h : moved f g.x s ≡ moved f g.x u = gap-moved g.gap s ∙ ap (past g.gap) e ∙ sym (gap-moved g.gap u) in
      let r' : RunsOn f (moved f g.x u) g.xs bs = subst (λ (y : List ℕ). Runs f u y bs) g.are r in
      let r'' : Runs f s (g.x ∷ g.xs) bs = subst (λ (y : State). RunsOn f y g.xs bs) (sym h) r' in
      subst (λ (y : List ℕ). Runs f s y bs) (sym g.are) r''

  shut_one : {t : List ℕ} (bs : List ℕ) (s : State) (o : ℕ) (c m v l : Bool) → Gapped f t → close f (fresh s) ≡ standing 0 0 o true true m v l
      → Runs f (standing 0 0 o c true m v l) t bs → Runs f s t (o ∷ bs)
  shut_one {t} bs s o c m v l g e r =
      let u = standing 0 0 o c true m v l in
      let r' : RunsOn f (moved f g.x u) g.xs bs = subst (λ (y : List ℕ). Runs f u y bs) g.are r in
      let r'' : RunsOn f (past g.gap (standing 0 0 o false true m v l)) g.xs bs = subst (λ (y : State). RunsOn f y g.xs bs) (gap-moved g.gap u) r' in
      let h : moved f g.x s ≡ past g.gap (standing 0 0 o true true m v l) = gap-moved g.gap s ∙ ap (past g.gap) e in
      let z : Runs f s (g.x ∷ g.xs) (o ∷ bs) = subst (λ (y : State). RunsOn f y g.xs (o ∷ bs)) (sym h) (gap-kept o m v l g.xs bs g.gap r'') in
      subst (λ (y : List ℕ). Runs f s y (o ∷ bs)) (sym g.are) z

-- ---- the characters of a group

-- digits in pairs so far, and the octets of them
data Even : ℕ → ℕ → Type 0 where
  none : Even 0 0
  one : Even 2 1
  more : {k : ℕ} → 2 ≤ k → Even 4 k

module _ {f : Kind} (pr : Proper f) where
  module _ {p : ℕ} {q : Bool} (fr : f.prefix ≡ true → 2 ≤ p) (n : f.marked ≡ true → q ≡ false) where
    digit-moved : {x a : ℕ} (d o : ℕ) (c m v l : Bool) → Digit x a → moved f x (standing p d o c q m v l) ≡ digit_on x (standing p d o false q m v l)
    digit-moved {x} d o c m v l g =
        let s = standing p d o false q m v l in
        other-moved (other-digit pr g) (standing p d o c q m v l)
        ∙ sym (within-begins f x s n)
        ∙ sym (begins-digital f x s fr)
        ∙ sym (digital-digit f x s (digit-is g).0)

    -- two digits, which make an octet
    pair-run : {x y a b : ℕ} (d k e o : ℕ) (c m v l : Bool) (xs bs : List ℕ) → Digit x a → Digit y b
        → digit_on x (standing p d o false q m v l) ≡ standing p k (value x) false q m v l
        → digit_on y (standing p k (value x) false q m v l) ≡ standing p e (value x % 16 * 16 + value y) true q m v l
        → ((o : ℕ) (c : Bool) → Runs f (standing p e o c q m v l) xs bs)
        → Runs f (standing p d o c q m v l) (x ∷ y ∷ xs) ((a * 16 + b) ∷ bs)
    pair-run {x} {y} {a} {b} d k e o c m v l xs bs g h i j r =
        let z = value x % 16 * 16 + value y in
        let u = (digit-is g).1 in
        let w = (digit-is h).1 in
        let under = digit-under g in
        let eq : a * 16 + b ≡ z = omega arith in
        let two : RunsOn f (standing p e z true q m v l) xs ((a * 16 + b) ∷ bs) = (refl, bs, r z true, ap (λ (y : ℕ). y ∷ bs) eq) in
        let second : Runs f (standing p k (value x) false q m v l) (y ∷ xs) ((a * 16 + b) ∷ bs) =
        subst (λ (s : State). RunsOn f s xs ((a * 16 + b) ∷ bs)) (sym (digit-moved k (value x) false m v l h ∙ j)) two in
        let one : RunsOn f (standing p k (value x) false q m v l) (y ∷ xs) ((a * 16 + b) ∷ bs) = (refl, (a * 16 + b) ∷ bs, second, refl) in
        subst (λ (s : State). RunsOn f s (y ∷ xs) ((a * 16 + b) ∷ bs)) (sym (digit-moved d o c m v l g ∙ i)) one

    module _ {t : List ℕ} (cs : List ℕ) (m v l w : Bool) (g : Gapped f t) (al : Allowed f (cond m true v) w)
        (rest : (o : ℕ) → Runs f (standing 0 0 o false true true (cond m true v) w) t cs) where
      pairs-run : {ds bs : List ℕ} {d k : ℕ} → Pairs ds bs → Even d k → 1 ≤ k + length bs → cond (ltb 1 (k + length bs)) true l ≡ w → (o : ℕ) (c : Bool)
          → Runs f (standing p d o c q m v l) (ds ++ t) (bs ++ cs)
      pairs-run spells.none none h e o c = absurd (omega arith)
      pairs-run spells.none one h e o c =
          shut-pairs cs (standing p 2 o c q m v l) (standing 0 0 o false true true (cond m true v) w) g
          (ap (λ (y : Bool). allowed f (standing 0 0 o false true true (cond m true v) y)) e ∙ allowed-is f o false true true (cond m true v) w al)
          (rest o)
      pairs-run spells.none (more {k} i) h e o c =
          let j : true ≡ w = rw (lt-ltb 1 (k + 0) (omega arith)) at e in
          shut-pairs cs (standing p 4 o c q m v l) (standing 0 0 o false true true (cond m true v) w) g
          (ap (λ (y : Bool). allowed f (standing 0 0 o false true true (cond m true v) y)) j ∙ allowed-is f o false true true (cond m true v) w al)
          (rest o)
      pairs-run (spells.pair {t = ds} {bs} a b ps) none h e o c =
          let z : 1 + length bs ≡ 0 + suc (length bs) = omega arith in
          pair-run 0 1 2 o c m v l (ds ++ t) (bs ++ cs) a b refl refl (λ o c. pairs-run ps one (omega arith) (ap (λ (y : ℕ). cond (ltb 1 y) true l) z ∙ e) o c)
      pairs-run (spells.pair {t = ds} {bs} a b ps) one h e o c =
          let z : 2 + length bs ≡ 1 + suc (length bs) = omega arith in
          pair-run 2 3 4 o c m v l (ds ++ t) (bs ++ cs) a b refl refl
          (λ o c. pairs-run ps (more {k = 2} (omega arith)) (omega arith) (ap (λ (y : ℕ). cond (ltb 1 y) true l) z ∙ e) o c)
      pairs-run (spells.pair {t = ds} {bs} a b ps) (more {k} i) h e o c =
          let z : k + 1 + length bs ≡ k + suc (length bs) = omega arith in
          pair-run 4 3 4 o c m v l (ds ++ t) (bs ++ cs) a b refl refl
          (λ o c. pairs-run ps (more {k = k + 1} (omega arith)) (omega arith) (ap (λ (y : ℕ). cond (ltb 1 y) true l) z ∙ e) o c)

      digits-run : {ds bs : List ℕ} → Digits f ds bs → cond (ltb 1 (length bs)) true l ≡ w → (o : ℕ) (c : Bool)
          → Runs f (standing p 0 o c q m v l) (ds ++ t) (bs ++ cs)
      digits-run (spells.pairs {bs} ps h) e o c =
          let z : 0 + length bs ≡ length bs = omega arith in
          pairs-run ps none (omega arith) (ap (λ (y : ℕ). cond (ltb 1 y) true l) z ∙ e) o c
      digits-run (spells.single {x} {v = a} s d) e o c =
          let k : close f (standing p 1 (value x) false q m v l) ≡ standing 0 0 (value x) true true true (cond m true v) w =
          rw (s, e) (allowed-is f (value x) true true true (cond m true v) w al) in
          let r : Runs f (standing p 1 (value x) false q m v l) t (value x ∷ cs) =
          shut_one cs (standing p 1 (value x) false q m v l) (value x) false true (cond m true v) w g k (rest (value x)) in
          let i : RunsOn f (standing p 1 (value x) false q m v l) t (a ∷ cs) = (refl, value x ∷ cs, r, ap (λ (y : ℕ). y ∷ cs) (sym (digit-is d).1)) in
          subst (λ (y : State). RunsOn f y t (a ∷ cs)) (sym (digit-moved 0 o c m v l d)) i

  -- ---- a group

  module _ {q : Bool} (n : f.marked ≡ true → q ≡ false) (e : f.prefix ≡ true) where
    zero-moved : {x : ℕ} (o : ℕ) (c m v l : Bool) → x ≡ 48 → moved f x (standing 0 0 o c q m v l) ≡ standing 1 0 o false q m v l
    zero-moved {x} o c m v l z =
        let s = standing 0 0 o false q m v l in
        let d : Digit x 0 = decimal (omega arith) (omega arith) in
        other-moved (other-digit pr d) (standing 0 0 o c q m v l)
        ∙ sym (within-begins f x s n)
        ∙ sym (begins-prefix f x s e (omega arith))
        ∙ rw (eq-eqb x 48 z) refl

    ex-moved : {x : ℕ} (o : ℕ) (c m v l : Bool) → Ex x → moved f x (standing 1 0 o c q m v l) ≡ standing 2 0 o false q m v l
    ex-moved {x} o c m v l y =
        let s = standing 1 0 o false q m v l in
        other-moved (other-ex pr y) (standing 1 0 o c q m v l) ∙ sym (within-begins f x s n) ∙ sym (begins-prefix f x s e (omega arith)) ∙ go y
      where
        go : {x : ℕ} → Ex x → prefix x (standing 1 0 o false q m v l) ≡ standing 2 0 o false q m v l
        go (spells.lower e) = rw e refl
        go (spells.upper e) = rw e refl

  group-run : {q : Bool} {t gs bs : List ℕ} (cs : List ℕ) (m v l : Bool)
      → (f.marked ≡ true → q ≡ false)
      → Gapped f t
      → Allowed f (cond m true v) (cond (ltb 1 (length bs)) true l)
      → ((o : ℕ) → Runs f (standing 0 0 o false true true (cond m true v) (cond (ltb 1 (length bs)) true l)) t cs)
      → Group f gs bs
      → (o : ℕ) (c : Bool)
      → Runs f (standing 0 0 o c q m v l) (gs ++ t) (bs ++ cs)
  group-run {q} {t} {gs} {bs} cs m v l n g a r (spells.bare e d) o c =
      digits-run (λ h. absurd (false≢true (sym e ∙ h))) n cs m v l (cond (ltb 1 (length bs)) true l) g a r d refl o c
  group-run {q} {t} {gs} {bs} cs m v l n g a r (spells.fronted {x} {y} {t = ds} e z k d) o c =
      let r3 : Runs f (standing 2 0 o false q m v l) (ds ++ t) (bs ++ cs) =
      digits-run (λ h. omega arith) n cs m v l (cond (ltb 1 (length bs)) true l) g a r d refl o false in
      let r2 : Runs f (standing 1 0 o false q m v l) (y ∷ (ds ++ t)) (bs ++ cs) =
      subst (λ (s : State). RunsOn f s (ds ++ t) (bs ++ cs)) (sym (ex-moved n e o false m v l k)) (refl, bs ++ cs, r3, refl) in
      subst (λ (s : State). RunsOn f s (y ∷ (ds ++ t)) (bs ++ cs)) (sym (zero-moved n e o c m v l z)) (refl, bs ++ cs, r2, refl)

  -- ---- a text

  run-gap : {x : ℕ} (g : Gap f x) (s : State) (xs bs : List ℕ) → RunsOn f (past g (close f (fresh s))) xs bs → Runs f s (x ∷ xs) bs
  run-gap g s xs bs r = subst (λ (y : State). RunsOn f y xs bs) (sym (gap-moved g s)) r

  pub listed-runs : {q m v l : Bool} {t : List ℕ} {gs : List (List ℕ)} {ls : List (List (List ℕ))} → Listed f q t gs ls → Fits f m v l gs ls
      → (o : ℕ) (c : Bool) → Runs f (standing 0 0 o c q m v l) (t ++ (10 ∷ [])) (flat (flat (gs ∷ ls)))
  listed-runs {q} {m} {v} {l} spells.nothing sound.nothing o c =
      run-gap {x = 10} (steps.at_break refl) (standing 0 0 o c q m v l) [] [] (refl, [], refl, refl)
  listed-runs {q} {m} {v} {l} {gs} {ls} (spells.blank {t} b k) h o c =
      let bs = flat (flat (gs ∷ ls)) in
      run-gap (gap_blank b) (standing 0 0 o c q m v l) (t ++ (10 ∷ [])) bs (refl, bs, listed-runs k h o false, refl)
  listed-runs {q} {m} {v} {l} (spells.break {t} {l = gs} {ls} e k) (sound.next_line h) o c =
      let bs = flat (flat (gs ∷ ls)) in
      run-gap (steps.at_break e) (standing 0 0 o c q m v l) (t ++ (10 ∷ [])) bs (refl, bs, listed-runs k h o false, refl)
  listed-runs {q} {m} {v} {l} {gs} {ls} (spells.mark {t} b k) h o c =
      let bs = flat (flat (gs ∷ ls)) in
      run-gap (gap_mark pr b) (standing 0 0 o c true m v l) (t ++ (10 ∷ [])) bs (refl, bs, listed-runs k h o false, refl)
  listed-runs {q} {m} {v} {l} (spells.group {g} {t} {bs} {l = gs} {ls} n gr e k) (sound.group a h) o c =
      subst (λ (y : List ℕ). Runs f (standing 0 0 o c q m v l) y (bs ++ flat (flat (gs ∷ ls)))) (sym (append_assoc g t (10 ∷ [])))
      (group-run (flat (flat (gs ∷ ls))) m v l n (gapped pr e) a (λ o. listed-runs k h o false) gr o c)
