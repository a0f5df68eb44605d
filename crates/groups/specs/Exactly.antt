-- A text is read as octets exactly where it spells them as a list of the kind, and they have room; it spells one list of octets at most. Assumes nothing.
use Rattle.std.specs.Prelude.{◌≡◌, refl, Bool, true, false, cond, ◌⊎◌, List, [], ◌∷◌, ◌++◌, ℕ, ◌+◌, ◌≤◌, ltb, length, take}
use Rattle.std.proofs.Common.{sym, ap, ◌∙◌, subst, inl, inr, ⊎_elim, zero-add, arith, le-ltb, ltb-false}
use Rattle.std.proofs.lemmas.Bool.{false≢true}
use Rattle.octets.specs.Lists.{All, flat}
use Rattle.octets.specs.Over.{over}
use Rattle.inputs.specs.Read.{Read, Octets}
use Rattle.groups.specs.declared.Kind.{Kind}
use Rattle.groups.specs.States.{begun}
use Rattle.groups.specs.Groups.{ended, read_from, read_of}
use Rattle.groups.specs.Spells.{Proper, Alone, narrow, by_line, by_list, Spells}
use Rattle.groups.specs.Filling.{runs-one, read-runs, runs-read}
use Rattle.groups.specs.Runs.{machine, Runs, reader}
use Rattle.groups.specs.Steps.{Allowed}
use Rattle.groups.specs.Steps as steps
use Rattle.groups.specs.Sound.{Fits, nothing, next_line, group, between, runs-goes}
use Rattle.groups.specs.Complete.{listed-runs}

-- ---- where a group of more octets than one stands

-- no octets to spare, where a group has stood before on the line or in the list
abbrev before : Bool → ℕ
before m = cond m 1 0

-- one group to a line, or one in all; where m, one has stood before
data Lone (f : Kind) (m : Bool) (gs : List (List ℕ)) (ls : List (List (List ℕ))) : Type 0 where
  lines : f.lines ≡ true → before m + length gs ≤ 1 → All (λ (l : List (List ℕ)). length l ≤ 1) ls → Lone f m gs ls
  list : f.lines ≡ false → f.whole ≡ true → before m + length (flat (gs ∷ ls)) ≤ 1 → Lone f m gs ls

first-lone : (f : Kind) (ls : List (List (List ℕ))) (bs : List ℕ) (gs : List (List ℕ)) (m l : Bool)
    → ((m l : Bool) → Lone f m gs ls → Fits f m false l gs ls)
    → Lone f m (bs ∷ gs) ls
    → Fits f m false l (bs ∷ gs) ls
first-lone f ls bs gs true l next (lines e h a) = absurd (omega arith)
first-lone f ls bs gs true l next (list e w h) = absurd (omega arith)
first-lone f ls bs gs false l next (lines e h a) = group (steps.by_line refl e) (next true (cond (ltb 1 (length bs)) true l) (lines e (omega arith) a))
first-lone f ls bs gs false l next (list e w h) = group (steps.by_list refl e w) (next true (cond (ltb 1 (length bs)) true l) (list e w (omega arith)))

first-narrow : (f : Kind) (ls : List (List (List ℕ))) (bs : List ℕ) (gs : List (List ℕ)) (m v : Bool) → length bs ≤ 1
    → Fits f true (cond m true v) false gs ls
    → Fits f m v false (bs ∷ gs) ls
first-narrow f ls bs gs m v h r =
    let e : cond (ltb 1 (length bs)) true false ≡ false = rw (le-ltb 1 (length bs) h) in
    group (steps.narrow e) (subst (λ (l : Bool). Fits f true (cond m true v) l gs ls) (sym e) r)

lone-fits : (f : Kind) (ls : List (List (List ℕ))) (gs : List (List ℕ)) (m l : Bool) → Lone f m gs ls → Fits f m false l gs ls
lone-fits f [] [] m l k = nothing
lone-fits f (hs ∷ ls) [] m l (lines e h a) =
    let k : before false + length hs ≤ 1 = let j = a.0 in omega arith in
    next_line (subst (λ (b : Bool). Fits f (cond b false m) false l hs ls) (sym e) (lone-fits f ls hs false l (lines e k a.1)))
lone-fits f (hs ∷ ls) [] m l (list e w h) = next_line (subst (λ (b : Bool). Fits f (cond b false m) false l hs ls) (sym e) (lone-fits f ls hs m l (list e w h)))
lone-fits f [] (bs ∷ gs) m l k = first-lone f [] bs gs m l (λ m l. lone-fits f [] gs m l) k
lone-fits f (hs ∷ ls) (bs ∷ gs) m l k = first-lone f (hs ∷ ls) bs gs m l (λ m l. lone-fits f (hs ∷ ls) gs m l) k

narrow-fits : (f : Kind) (ls : List (List (List ℕ))) (gs : List (List ℕ)) (m v : Bool) → All (All (λ (g : List ℕ). length g ≤ 1)) (gs ∷ ls)
    → Fits f m v false gs ls
narrow-fits f [] [] m v a = nothing
narrow-fits f (hs ∷ ls) [] m v a = next_line (narrow-fits f ls hs (cond f.lines false m) v a.1)
narrow-fits f [] (bs ∷ gs) m v a = first-narrow f [] bs gs m v a.0.0 (narrow-fits f [] gs true (cond m true v) (a.0.1, a.1))
narrow-fits f (hs ∷ ls) (bs ∷ gs) m v a =
    first-narrow f (hs ∷ ls) bs gs m v a.0.0 (narrow-fits f (hs ∷ ls) gs true (cond m true v) (a.0.1, a.1))

alone-fits : {f : Kind} {gs : List (List ℕ)} {ls : List (List (List ℕ))} → Alone f (gs ∷ ls) → Fits f false false false gs ls
alone-fits {f} {gs} {ls} (narrow a) = narrow-fits f ls gs false false a
alone-fits {f} {gs} {ls} (by_line e a) = lone-fits f ls gs false false (lines e (omega arith) a.1)
alone-fits {f} {gs} {ls} (by_list e w h) = lone-fits f ls gs false false (list e w (omega arith))

before-one : (m : Bool) → before m + 0 ≤ 1
before-one true = omega arith
before-one false = omega arith

next-lone : {f : Kind} {m : Bool} {gs : List (List ℕ)} {ls : List (List (List ℕ))} → Lone f (cond f.lines false m) gs ls → Lone f m [] (gs ∷ ls)
next-lone {f} {m} {gs} (lines e h a) = let k : 0 + length gs ≤ 1 = rw e at h in lines e (before-one m) (omega arith, a)
next-lone {f} {m} {gs} {ls} (list e w h) = let k : before m + length (flat (gs ∷ ls)) ≤ 1 = rw e at h in list e w k

more-lone : {f : Kind} {bs : List ℕ} {gs : List (List ℕ)} {ls : List (List (List ℕ))} → Lone f true gs ls → Lone f false (bs ∷ gs) ls
more-lone (lines e h a) = lines e (omega arith) a
more-lone (list e w h) = list e w (omega arith)

-- what allows a wide group
Alike : Kind → Type 0
Alike f = (f.lines ≡ true) ⊎ ((f.lines ≡ false) × (f.whole ≡ true))

allowed-wide : {f : Kind} {v l : Bool} → Allowed f v l → l ≡ true → (v ≡ false) × Alike f
unfolding Alike
allowed-wide (steps.narrow e) w = absurd (false≢true (sym e ∙ w))
allowed-wide (steps.by_line v e) w = (v, inl e)
allowed-wide (steps.by_list v e k) w = (v, inr (e, k))

neither : (m v : Bool) → cond m true v ≡ false → (m ≡ false) × (v ≡ false)
neither true v e = absurd (false≢true (sym e))
neither false v e = (refl, e)

still : (b l : Bool) → l ≡ true → cond b true l ≡ true
still true l e = refl
still false l e = e

-- after a wide group
wide-lone : {f : Kind} {m v l : Bool} {gs : List (List ℕ)} {ls : List (List (List ℕ))} → Fits f m v l gs ls → l ≡ true → v ≡ false → Alike f → Lone f m gs ls
unfolding Alike
wide-lone {f} {m} nothing e d (inl p) = lines p (before-one m) tt
wide-lone {f} {m} nothing e d (inr p) = list p.0 p.1 (before-one m)
wide-lone (next_line k) e d p = next-lone (wide-lone k e d p)
wide-lone {f} {m} {v} {l} {ls} (group {bs} {gs} a k) e d p =
    let w = still (ltb 1 (length bs)) l e in
    let c = (allowed-wide a w).0 in
    let n = (neither m v c).0 in
    subst (λ (y : Bool). Lone f y (bs ∷ gs) ls) (sym n) (more-lone (wide-lone k w c p))

fits-lone : {f : Kind} {m v l : Bool} {gs : List (List ℕ)} {ls : List (List (List ℕ))} → Fits f m v l gs ls
    → All (All (λ (g : List ℕ). length g ≤ 1)) (gs ∷ ls) ⊎ ((v ≡ false) × Lone f m gs ls)
fits-lone nothing = inl (tt, tt)
fits-lone (next_line k) = ⊎_elim (λ a. inl (tt, a)) (λ h. inr (h.0, next-lone h.1)) (fits-lone k)
fits-lone {f} {m} {v} {l} {ls} (group {bs} {gs} a k) = go (fits-lone k) (ltb 1 (length bs)) refl
  where
    lone : cond m true v ≡ false → Lone f true gs ls → (v ≡ false) × Lone f m (bs ∷ gs) ls
    lone c h = ((neither m v c).1, subst (λ (y : Bool). Lone f y (bs ∷ gs) ls) (sym (neither m v c).0) (more-lone h))

    go : All (All (λ (g : List ℕ). length g ≤ 1)) (gs ∷ ls) ⊎ ((cond m true v ≡ false) × Lone f true gs ls) → (b : Bool) → ltb 1 (length bs) ≡ b
        → All (All (λ (g : List ℕ). length g ≤ 1)) ((bs ∷ gs) ∷ ls) ⊎ ((v ≡ false) × Lone f m (bs ∷ gs) ls)
    go r true b =
        let w : cond (ltb 1 (length bs)) true l ≡ true = rw b in
        let c = allowed-wide a w in
        inr (lone c.0 (wide-lone k w c.0 c.1))
    go r false b = ⊎_elim (λ h. inl ((ltb-false 1 (length bs) b, h.0), h.1)) (λ h. inr (lone h.0 h.1)) r

fits-alone : {f : Kind} {gs : List (List ℕ)} {ls : List (List (List ℕ))} → Fits f false false false gs ls → Alone f (gs ∷ ls)
fits-alone {f} {gs} {ls} k = ⊎_elim (λ a. narrow a) (λ h. go h.1) (fits-lone k)
  where
    go : Lone f false gs ls → Alone f (gs ∷ ls)
    go (lines e h a) = by_line e (omega arith, a)
    go (list e w h) = by_list e w (omega arith)

-- ---- the theorems

-- what is read is spelled: the octets at the front of the buffer that is left
pub read-spelled : (f : Kind) (text out : List ℕ) (n : ℕ) → (read_of f text out).read ≡ Octets n → Spells f text (take n (read_of f text out).out)
unfolding read_of
read-spelled f text out n e =
    let out' = (read_of f text out).out in
    let d = ap (λ (y : Read). ended y out') e in
    let r = read-runs (machine f) (read_from f) ended (reader f) (text ++ (10 ∷ [])) begun 0 0 out n out' (omega arith) d in
    let g = runs-goes f text begun [] [] r.0 between r.1 in
    record { first = g.first; others = g.others; listed = g.listed; alone = fits-alone g.fits; are = r.3 ∙ g.are }

spelled-runs : {f : Kind} {t bs : List ℕ} → Proper f → Spells f t bs → Runs f begun (t ++ (10 ∷ [])) bs
spelled-runs {f} {t} {bs} p s = subst (Runs f begun (t ++ (10 ∷ []))) (sym s.are) (listed-runs p s.listed (alone-fits s.alone) 0 false)

-- what is spelled is read, where it has room, and the rest of the buffer stays as it was
pub spelled-read : (f : Kind) (t bs out : List ℕ) → Proper f → Spells f t bs → length bs ≤ length out
    → read_of f t out ≡ ended (Octets (length bs)) (over 0 bs out)
unfolding read_of
spelled-read f t bs out p s h =
    runs-read (machine f) (read_from f) ended (reader f) (t ++ (10 ∷ [])) begun 0 0 out bs (spelled-runs p s) (omega arith)
    ∙ ap (λ (y : ℕ). ended (Octets y) (over 0 bs out)) (zero-add (length bs))

-- no text spells two lists of octets as a list of one kind
pub spelled-once : (f : Kind) (t bs cs : List ℕ) → Proper f → Spells f t bs → Spells f t cs → bs ≡ cs
spelled-once f t bs cs p a b = runs-one (machine f) (t ++ (10 ∷ [])) begun (spelled-runs p a) (spelled-runs p b)
