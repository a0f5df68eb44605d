-- What is read is spelled: the characters of a list that completes octets are groups of those octets and what stands between them. Assumes nothing.
use Rattle.std.specs.Prelude.{◌≡◌, refl, Bool, true, false, cond, List, [], ◌∷◌, ◌++◌, ℕ, ◌+◌, ◌*◌, ◌%◌, ◌≤◌, ◌<◌, eqb, ltb, length}
use Rattle.std.proofs.Common.{sym, ap, ◌∙◌, subst, ⊎_elim, append_assoc, arith, eqb-true, lt-ltb, le-ltb, length-append}
use Rattle.std.proofs.lemmas.Bool.{false≢true}
use Rattle.octets.specs.Lists.{flat}
use Rattle.hexes.specs.Hexes.{value}
use Rattle.hexes.specs.Spelled.{Digit, decimal, upper, lower}
use Rattle.hexes.specs.Exactly.{digit-says}
use Rattle.inputs.specs.Why as why
use Rattle.groups.specs.declared.Kind.{Kind}
use Rattle.groups.specs.State.{State}
use Rattle.groups.specs.States.{fresh, blank, but, digit_on, begins, within, allowed, close, line}
use Rattle.groups.specs.StatesLaws.{begins-prefix, begins-digital}
use Rattle.groups.specs.Spells.{Blank, Ex, Pairs, Digits, Group, Ends, Listed}
use Rattle.groups.specs.Spells as spells
use Rattle.groups.specs.Runs.{Runs, RunsOn}
use Rattle.groups.specs.Steps.{standing, Gap, Other, gap-or-other, past, gap-moved, past-good, Allowed, allowed-is, allowed-says, allowed-good}
use Rattle.groups.specs.Steps.{other-moved, within-says, digital-says, zero-says, ex-says}
use Rattle.groups.specs.Steps as steps

-- ---- where groups of more octets than one stand

-- each group is allowed where it ends, after what has stood before
pub data Fits (f : Kind) : Bool → Bool → Bool → List (List ℕ) → List (List (List ℕ)) → Type 0 where
  nothing : {m v l : Bool} → Fits f m v l [] []
  next_line : {m v l : Bool} {gs : List (List ℕ)} {ls : List (List (List ℕ))} → Fits f (cond f.lines false m) v l gs ls → Fits f m v l [] (gs ∷ ls)
  group : {m v l : Bool} {bs : List ℕ} {gs : List (List ℕ)} {ls : List (List (List ℕ))}
      → Allowed f (cond m true v) (cond (ltb 1 (length bs)) true l)
      → Fits f true (cond m true v) (cond (ltb 1 (length bs)) true l) gs ls
      → Fits f m v l (bs ∷ gs) ls

-- the text t goes on as a list with the octets bs, where a mark may stand or not, after groups on its line, several of them, and wide ones
pub record Goes (f : Kind) (q m v l : Bool) (t bs : List ℕ) : Type 0 where
  pub first : List (List ℕ)
  pub others : List (List (List ℕ))
  pub listed : Listed f q t first others
  pub fits : Fits f m v l first others
  pub are : bs ≡ flat (flat (first ∷ others))

goes-as : {f : Kind} {q m v l : Bool} {t u bs cs : List ℕ} → t ≡ u → bs ≡ cs → Goes f q m v l t bs → Goes f q m v l u cs
goes-as {f} {q} {m} {v} {l} {t} {u} {bs} {cs} e d g =
    subst (λ (y : List ℕ). Goes f q m v l y cs) e (subst (λ (y : List ℕ). Goes f q m v l t y) d g)

-- ---- a group that has begun

-- what stands before its digits
pub data Front (f : Kind) : ℕ → List ℕ → Type 0 where
  bare : f.prefix ≡ false → Front f 0 []
  fronted : {x y : ℕ} → f.prefix ≡ true → x ≡ 48 → Ex y → Front f 2 (x ∷ y ∷ [])

-- its digits, how many, the last one's value, and the octets of the pairs
pub data Some : ℕ → ℕ → List ℕ → List ℕ → Type 0 where
  one : {y v : ℕ} → Digit y v → Some 1 v (y ∷ []) []
  two : {o : ℕ} {ds bs : List ℕ} → Pairs ds bs → length bs ≡ 1 → Some 2 o ds bs
  odd : {y v : ℕ} {es bs : List ℕ} → Pairs es bs → 1 ≤ length bs → Digit y v → Some 3 v (es ++ (y ∷ [])) bs
  even : {o : ℕ} {ds bs : List ℕ} → Pairs ds bs → 2 ≤ length bs → Some 4 o ds bs

-- the characters and the octets of a group that has begun, if one has
pub data Pending (f : Kind) : State → List ℕ → List ℕ → Type 0 where
  between : {o : ℕ} {c q m v l : Bool} → Pending f (standing 0 0 o c q m v l) [] []
  zero : {y o : ℕ} {c q m v l : Bool} → f.prefix ≡ true → (f.marked ≡ true → q ≡ false) → y ≡ 48 → Pending f (standing 1 0 o c q m v l) (y ∷ []) []
  ex : {x y o : ℕ} {c q m v l : Bool} → f.prefix ≡ true → (f.marked ≡ true → q ≡ false) → x ≡ 48 → Ex y
      → Pending f (standing 2 0 o c q m v l) (x ∷ y ∷ []) []
  digits : {p d o : ℕ} {c q m v l : Bool} {fs ds bs : List ℕ} → Front f p fs → (f.marked ≡ true → q ≡ false) → Some d o ds bs
      → Pending f (standing p d o c q m v l) (fs ++ ds) bs

group_of : {f : Kind} {p : ℕ} {fs ds bs : List ℕ} → Front f p fs → Digits f ds bs → Group f (fs ++ ds) bs
group_of (bare e) d = spells.bare e d
group_of (fronted e z y) d = spells.fronted e z y d

wide-more : (bs : List ℕ) → 2 ≤ length bs → (l : Bool) → cond (ltb 1 (length bs)) true l ≡ true
wide-more bs h l = rw (lt-ltb 1 (length bs) (omega arith))

wide-one : (bs : List ℕ) → length bs ≤ 1 → (l : Bool) → cond (ltb 1 (length bs)) true l ≡ l
wide-one bs h l = rw (le-ltb 1 (length bs) h)

-- ---- its end

-- where a group may end: v is what its end leads to, before the next character
pub record Closing (f : Kind) (t bs : List ℕ) (s : State) : Type 0 where
  pub ends : Ends f t
  pub good : s.why ≡ 0
  pub rest : (o : ℕ) (c q m v l : Bool) → s ≡ standing 0 0 o c q m v l → (cs : List ℕ) × (bs ≡ cond c (o ∷ []) [] ++ cs) × Goes f q m v l t cs

module _ {f : Kind} {t : List ℕ} where
  -- a group that ends, with the octets bs, and what follows
  ended : {q m v l w : Bool} {g bs cs : List ℕ}
      → (f.marked ≡ true → q ≡ false)
      → Group f g bs
      → Ends f t
      → cond (ltb 1 (length bs)) true l ≡ w
      → Allowed f (cond m true v) w
      → Goes f true true (cond m true v) w t cs
      → Goes f q m v l (g ++ t) (bs ++ cs)
  ended {q} {m} {v} {l} {w} {g} {bs} {cs} n gr e k a r =
      record {
        first = bs ∷ r.first;
        others = r.others;
        listed = spells.group n gr e r.listed;
        fits = group {m = m} {v = v} {l = l} {bs = bs} {gs = r.first} {ls = r.others} (rw k a) (rw k r.fits);
        are = ap (λ (y : List ℕ). bs ++ y) r.are;
      }

  -- an allowed end
  closes : {bs : List ℕ} (o : ℕ) (c m v l : Bool) → Closing f t bs (allowed f (standing 0 0 o c true true (cond m true v) l))
      → Allowed f (cond m true v) l × ((cs : List ℕ) × (bs ≡ cond c (o ∷ []) [] ++ cs) × Goes f true true (cond m true v) l t cs)
  closes o c m v l k =
      let yes = allowed-says f o c true true (cond m true v) l k.good in
      (yes, k.rest o c true true (cond m true v) l (allowed-is f o c true true (cond m true v) l yes))

  -- the octets of a group whose pairs are complete
  closed-pairs : {q m v l w : Bool} {g bs cs : List ℕ} (o : ℕ)
      → (f.marked ≡ true → q ≡ false)
      → Group f g bs
      → cond (ltb 1 (length bs)) true l ≡ w
      → Closing f t cs (allowed f (standing 0 0 o false true true (cond m true v) w))
      → Goes f q m v l (g ++ t) (bs ++ cs)
  closed-pairs {q} {m} {v} {l} {w} {g} {bs} {cs} o n gr k c =
      let r = closes o false m v w c in
      goes-as refl (ap (λ (y : List ℕ). bs ++ y) (sym r.1.1)) (ended n gr c.ends k r.0 r.1.2)

  -- a single digit
  closed-one : {p o : ℕ} {q m v l : Bool} {fs cs : List ℕ} {x : ℕ}
      → Front f p fs
      → (f.marked ≡ true → q ≡ false)
      → Digit x o
      → Closing f t cs (close f (standing p 1 o false q m v l))
      → (b : Bool) → f.single ≡ b
      → Goes f q m v l ((fs ++ (x ∷ [])) ++ t) cs
  closed-one {p} {o} {q} {m} {v} {l} {fs} {cs} fr n d c true s =
      let e : close f (standing p 1 o false q m v l) ≡ allowed f (standing 0 0 o true true true (cond m true v) l) = rw s in
      let c' : Closing f t cs (allowed f (standing 0 0 o true true true (cond m true v) l)) = subst (Closing f t cs) e c in
      let r = closes o true m v l c' in
      goes-as refl (sym r.1.1) (ended n (group_of fr (spells.single s d)) c.ends refl r.0 r.1.2)
  closed-one {p} {o} {q} {m} {v} {l} {fs} {cs} fr n d c false s =
      let e : close f (standing p 1 o false q m v l) ≡ allowed f (but why.form (standing p 1 o false q m v l)) = rw s in
      let z : why.form ≡ 0 = allowed-good f (but why.form (standing p 1 o false q m v l)) (subst (λ (y : State). y.why ≡ 0) e c.good) in
      absurd (omega arith)

  pub closed : {s : State} {p bs cs : List ℕ} → Pending f s p bs → Closing f t cs (close f (fresh s))
      → Goes f s.after s.some s.several s.wide (p ++ t) (bs ++ cs)
  closed {s} {p} {bs} {cs} (between {o} {q} {m} {v} {l}) k =
      let r = k.rest o false q m v l refl in
      goes-as refl (sym r.1) r.2
  closed (zero h n z) k = let z : why.form ≡ 0 = k.good in absurd (omega arith)
  closed (ex h n z y) k = let z : why.form ≡ 0 = k.good in absurd (omega arith)
  closed (digits fr n (one d)) k = closed-one fr n d k f.single refl
  closed {s} {p} {bs} {cs} (digits {o} {l} fr n (two ps h)) k =
      closed-pairs o n (group_of fr (spells.pairs ps (omega arith))) (wide-one bs (omega arith) l) k
  closed (digits fr n (odd ps h d)) k = let z : why.form ≡ 0 = k.good in absurd (omega arith)
  closed {s} {p} {bs} {cs} (digits {o} {l} fr n (even ps h)) k =
      closed-pairs o n (group_of fr (spells.pairs ps (omega arith))) (wide-more bs (omega arith) l) k

-- ---- between groups

-- what is left after a character, of every list that it leads to
abbrev pub Next : Kind → List ℕ → Type 0
Next f xs =
    (s : State) (p bs cs : List ℕ) → Pending f s p bs → Runs f s (xs ++ (10 ∷ [])) cs
    → Goes f s.after s.some s.several s.wide (p ++ xs) (bs ++ cs)

pub blank-says : (x : ℕ) → (x ≡ 10 → ⊥) → blank x ≡ true → Blank x
blank-says x n = go (eqb x 32) refl (eqb x 9) refl (eqb x 13) refl (eqb x 10) refl
  where
    go : (a : Bool) → eqb x 32 ≡ a → (b : Bool) → eqb x 9 ≡ b → (c : Bool) → eqb x 13 ≡ c → (d : Bool) → eqb x 10 ≡ d
        → cond a true (cond b true (cond c true d)) ≡ true → Blank x
    go true a b q c r d s e = spells.space (eqb-true x 32 a)
    go false a true q c r d s e = spells.tab (eqb-true x 9 q)
    go false a false q true r d s e = spells.carriage_return (eqb-true x 13 r)
    go false a false q false r true s e = absurd (n (eqb-true x 10 s))
    go false a false q false r false s e = absurd (false≢true e)

ends_at : {f : Kind} {x : ℕ} → Gap f x → (t : List ℕ) → Ends f (x ∷ t)
ends_at (steps.at_break e) t = spells.at_break e
ends_at {f} {x} (steps.at_blank n b) t = spells.at_blank (blank-says x n b)
ends_at (steps.at_mark n b m e) t = spells.at_mark record { is = e; some = m }

module _ {f : Kind} {x : ℕ} {xs : List ℕ} (next : Next f xs) where
  gap-rest : {bs : List ℕ} (g : Gap f x) (o : ℕ) (c q m v l : Bool) → RunsOn f (past g (standing 0 0 o c q m v l)) (xs ++ (10 ∷ [])) bs
      → (cs : List ℕ) × (bs ≡ cond c (o ∷ []) [] ++ cs) × Goes f q m v l (x ∷ xs) cs
  gap-rest (steps.at_break e) o c q m v l r =
      let h = next (line f (standing 0 0 o c q m v l)) [] [] r.1 between r.2 in
      (r.1, r.3, record { first = []; others = h.first ∷ h.others; listed = spells.break e h.listed; fits = next_line h.fits; are = h.are })
  gap-rest (steps.at_blank n b) o c q m v l r =
      let h = next (standing 0 0 o c q m v l) [] [] r.1 between r.2 in
      (r.1, r.3, record { first = h.first; others = h.others; listed = spells.blank (blank-says x n b) h.listed; fits = h.fits; are = h.are })
  gap-rest (steps.at_mark n b k e) o c true m v l r =
      let h = next (standing 0 0 o c false m v l) [] [] r.1 between r.2 in (
        r.1,
        r.3,
        record {
          first = h.first;
          others = h.others;
          listed = spells.mark record { is = e; some = k } h.listed;
          fits = h.fits;
          are = h.are;
        },
      )
  gap-rest (steps.at_mark n b k e) o c false m v l r = let z : why.form ≡ 0 = r.0 in absurd (omega arith)

  gap-next : {s : State} {p bs cs : List ℕ} → Gap f x → Pending f s p bs → Runs f s ((x ∷ xs) ++ (10 ∷ [])) cs
      → Goes f s.after s.some s.several s.wide (p ++ (x ∷ xs)) (bs ++ cs)
  gap-next {s} {p} {bs} {cs} g k r =
      let r' : RunsOn f (past g (close f (fresh s))) (xs ++ (10 ∷ [])) cs = subst (λ (y : State). RunsOn f y (xs ++ (10 ∷ [])) cs) (gap-moved g s) r in
      closed k record {
        ends = ends_at g xs;
        good = past-good g (close f (fresh s)) r'.0;
        rest = λ o c q m v l e. gap-rest g o c q m v l (subst (λ (y : State). RunsOn f (past g y) (xs ++ (10 ∷ [])) cs) e r');
      }

-- the last character is the line break after the text
last-next : {f : Kind} {s : State} {p bs cs : List ℕ} → Pending f s p bs → Runs f s (10 ∷ []) cs
    → Goes f s.after s.some s.several s.wide (p ++ []) (bs ++ cs)
last-next {f} {s} {p} {bs} {cs} k r =
    let r' : RunsOn f (line f (close f (fresh s))) [] cs = subst (λ (y : State). RunsOn f y [] cs) (gap-moved {f = f} {x = 10} (steps.at_break refl) s) r in
    closed k record {
      ends = spells.at_end;
      good = r'.0;
      rest = λ o c q m v l e.
          let r'' : RunsOn f (line f (standing 0 0 o c q m v l)) [] cs = subst (λ (y : State). RunsOn f (line f y) [] cs) e r' in
          (r''.1, r''.3, record { first = []; others = []; listed = spells.nothing; fits = nothing; are = r''.2 });
    }

-- ---- within a group

pub digit-under : {x v : ℕ} → Digit x v → v < 16
digit-under (decimal h e) = omega arith
digit-under (upper h k e) = k
digit-under (lower h k e) = k

pairs-snoc : {x y v w : ℕ} {ds bs : List ℕ} → Pairs ds bs → Digit x v → Digit y w → Pairs (ds ++ (x ∷ y ∷ [])) (bs ++ ((v * 16 + w) ∷ []))
pairs-snoc spells.none d e = spells.pair d e spells.none
pairs-snoc (spells.pair a b p) d e = spells.pair a b (pairs-snoc p d e)

shift : (fs ds : List ℕ) (x : ℕ) (xs : List ℕ) → (fs ++ (ds ++ (x ∷ []))) ++ xs ≡ (fs ++ ds) ++ (x ∷ xs)
shift [] [] x xs = refl
shift [] (d ∷ ds) x xs = ap (λ (y : List ℕ). d ∷ y) (shift [] ds x xs)
shift (y ∷ fs) ds x xs = ap (λ (z : List ℕ). y ∷ z) (shift fs ds x xs)

front-done : {f : Kind} {p : ℕ} {fs : List ℕ} → Front f p fs → f.prefix ≡ true → 2 ≤ p
front-done (bare e) h = absurd (false≢true (sym e ∙ h))
front-done (fronted e z y) h = omega arith

module _ {f : Kind} (x : ℕ) {xs : List ℕ} (next : Next f xs) where
  digit-next : {p d o : ℕ} {q m v l : Bool} {fs ds bs cs : List ℕ} → Front f p fs → (f.marked ≡ true → q ≡ false) → Some d o ds bs → Digit x (value x)
      → RunsOn f (digit_on x (standing p d o false q m v l)) (xs ++ (10 ∷ [])) cs
      → Goes f q m v l ((fs ++ ds) ++ (x ∷ xs)) (bs ++ cs)
  digit-next {p} {d} {o} {q} {m} {v} {l} {fs} {ds} {bs} {cs} fr n (one {y} e) g r =
      let b = o % 16 * 16 + value x in
      let u = digit-under e in
      let w : o * 16 + value x ≡ b = omega arith in
      let ps : Pairs (y ∷ x ∷ []) (b ∷ []) = subst (λ (k : ℕ). Pairs (y ∷ x ∷ []) (k ∷ [])) w (spells.pair e g spells.none) in
      let h = next (standing p 2 b true q m v l) (fs ++ (y ∷ x ∷ [])) (b ∷ []) r.1 (digits fr n (two ps refl)) r.2 in
      goes-as (shift fs (y ∷ []) x xs) (sym r.3) h
  digit-next {p} {d} {o} {q} {m} {v} {l} {fs} {ds} {bs} {cs} fr n (two ps k) g r =
      let h = next (standing p 3 (value x) false q m v l) (fs ++ (ds ++ (x ∷ []))) bs r.1 (digits fr n (odd ps (omega arith) g)) r.2 in
      goes-as (shift fs ds x xs) (ap (λ (y : List ℕ). bs ++ y) (sym r.3)) h
  digit-next {p} {d} {o} {q} {m} {v} {l} {fs} {ds} {bs} {cs} fr n (odd {y} {es} ps k e) g r =
      let b = o % 16 * 16 + value x in
      let u = digit-under e in
      let w : o * 16 + value x ≡ b = omega arith in
      let pt : Pairs (es ++ (y ∷ x ∷ [])) (bs ++ (b ∷ [])) = subst (λ (k : ℕ). Pairs (es ++ (y ∷ x ∷ [])) (bs ++ (k ∷ []))) w (pairs-snoc ps e g) in
      let z : 2 ≤ length (bs ++ (b ∷ [])) = rw (length-append bs (b ∷ [])) (omega arith) in
      let h = next (standing p 4 b true q m v l) (fs ++ (es ++ (y ∷ x ∷ []))) (bs ++ (b ∷ [])) r.1 (digits fr n (even pt z)) r.2 in
      let j : (fs ++ (es ++ (y ∷ x ∷ []))) ++ xs ≡ (fs ++ (es ++ (y ∷ []))) ++ (x ∷ xs) =
      ap (λ (k : List ℕ). (fs ++ k) ++ xs) (sym (append_assoc es (y ∷ []) (x ∷ []))) ∙ shift fs (es ++ (y ∷ [])) x xs in
      goes-as j (append_assoc bs (b ∷ []) r.1 ∙ ap (λ (y : List ℕ). bs ++ y) (sym r.3)) h
  digit-next {p} {d} {o} {q} {m} {v} {l} {fs} {ds} {bs} {cs} fr n (even ps k) g r =
      let h = next (standing p 3 (value x) false q m v l) (fs ++ (ds ++ (x ∷ []))) bs r.1 (digits fr n (odd ps (omega arith) g)) r.2 in
      goes-as (shift fs ds x xs) (ap (λ (y : List ℕ). bs ++ y) (sym r.3)) h

  -- a digit, after what stands before the digits
  first_next : {p : ℕ} (o : ℕ) {q m v l : Bool} {fs cs : List ℕ} → Front f p fs → (f.marked ≡ true → q ≡ false)
      → RunsOn f (begins f x (standing p 0 o false q m v l)) (xs ++ (10 ∷ [])) cs
      → Goes f q m v l (fs ++ (x ∷ xs)) cs
  first_next {p} o {q} {m} {v} {l} {fs} {cs} fr n r =
      let s = standing p 0 o false q m v l in
      let r' = subst (λ (y : State). RunsOn f y (xs ++ (10 ∷ [])) cs) (sym (begins-digital f x s (front-done fr))) r in
      let d = digital-says f x s r'.0 in
      let r'' : RunsOn f (standing p 1 (value x) false q m v l) (xs ++ (10 ∷ [])) cs = subst (λ (y : State). RunsOn f y (xs ++ (10 ∷ [])) cs) d.1 r' in
      let h = next (standing p 1 (value x) false q m v l) (fs ++ (x ∷ [])) [] r''.1 (digits fr n (one (digit-says x d.0))) r''.2 in
      goes-as (append_assoc fs (x ∷ []) xs) (sym r''.3) h

  begin-next : (o : ℕ) {q m v l : Bool} {cs : List ℕ} → (f.marked ≡ true → q ≡ false) → (b : Bool) → f.prefix ≡ b
      → RunsOn f (begins f x (standing 0 0 o false q m v l)) (xs ++ (10 ∷ [])) cs
      → Goes f q m v l (x ∷ xs) cs
  begin-next o n false e r = first_next o (bare e) n r
  begin-next o {q} {m} {v} {l} {cs} n true e r =
      let s = standing 0 0 o false q m v l in
      let r' = subst (λ (y : State). RunsOn f y (xs ++ (10 ∷ [])) cs) (sym (begins-prefix f x s e (omega arith))) r in
      let z = zero-says x o false q m v l r'.0 in
      let r'' : RunsOn f (standing 1 0 o false q m v l) (xs ++ (10 ∷ [])) cs = subst (λ (y : State). RunsOn f y (xs ++ (10 ∷ [])) cs) z.1 r' in
      goes-as refl (sym r''.3) (next (standing 1 0 o false q m v l) (x ∷ []) [] r''.1 (zero e n z.0) r''.2)

  other-next : {s : State} {p bs cs : List ℕ} → Other f x → Pending f s p bs → Runs f s ((x ∷ xs) ++ (10 ∷ [])) cs
      → Goes f s.after s.some s.several s.wide (p ++ (x ∷ xs)) (bs ++ cs)
  other-next {s} {p} {bs} {cs} i k r =
      go k (subst (λ (y : State). RunsOn f y (xs ++ (10 ∷ [])) cs) (other-moved i s) r)
    where
      go : {s : State} {p bs : List ℕ} → Pending f s p bs → RunsOn f (within f x (fresh s)) (xs ++ (10 ∷ [])) cs
          → Goes f s.after s.some s.several s.wide (p ++ (x ∷ xs)) (bs ++ cs)
      go (between {o} {q} {m} {v} {l}) r =
          let w = within-says f x (standing 0 0 o false q m v l) r.0 in
          begin-next o w.0 f.prefix refl (subst (λ (y : State). RunsOn f y (xs ++ (10 ∷ [])) cs) w.1 r)
      go (zero {y} {o} {q} {m} {v} {l} e n z) r =
          let s = standing 1 0 o false q m v l in
          let w = within-says f x s r.0 in
          let r' = subst (λ (u : State). RunsOn f u (xs ++ (10 ∷ [])) cs) (w.1 ∙ sym (begins-prefix f x s e (omega arith))) r in
          let g = ex-says x o false q m v l r'.0 in
          let r'' : RunsOn f (standing 2 0 o false q m v l) (xs ++ (10 ∷ [])) cs = subst (λ (u : State). RunsOn f u (xs ++ (10 ∷ [])) cs) g.1 r' in
          goes-as refl (sym r''.3) (next (standing 2 0 o false q m v l) (y ∷ x ∷ []) [] r''.1 (ex e n z g.0) r''.2)
      go (ex {o} {q} {m} {v} {l} e n z y) r =
          let w = within-says f x (standing 2 0 o false q m v l) r.0 in
          first_next o (fronted e z y) n (subst (λ (u : State). RunsOn f u (xs ++ (10 ∷ [])) cs) w.1 r)
      go (digits {p} {d} {o} {q} {m} {v} {l} fr n k) r =
          let s = standing p d o false q m v l in
          let w = within-says f x s r.0 in
          let r' = subst (λ (u : State). RunsOn f u (xs ++ (10 ∷ [])) cs) (w.1 ∙ sym (begins-digital f x s (front-done fr))) r in
          let g = digital-says f x s r'.0 in
          digit-next fr n k (digit-says x g.0) (subst (λ (u : State). RunsOn f u (xs ++ (10 ∷ [])) cs) g.1 r')

-- ---- a text

pub runs-goes : (f : Kind) (xs : List ℕ) → Next f xs
runs-goes f [] s p bs cs k r = last-next k r
runs-goes f (x ∷ xs) s p bs cs k r = ⊎_elim (λ g. gap-next (runs-goes f xs) g k r) (λ i. other-next x (runs-goes f xs) i k r) (gap-or-other f x)
