-- What stands at a place of a name in wire form, by the walk that finds it, and octets at either end of a text. Assumes nothing.
use Rattle.std.specs.Prelude.{◌≡◌, Bool, true, false, List, [], ◌∷◌, ◌++◌, length, get_or, drop}
use Rattle.std.proofs.Math.Path.{refl, sym, ap₂}
use Rattle.std.proofs.Common.{ap, ◌∙◌, add-one, drop_of_length-le, drop-cons}
use Prim.Native.Nat.{ℕ, zero, suc, ◌+◌, ◌-◌, ◌≤◌, ◌<◌}
use native.Mathlib.Omega.{arith}
use borrow.Author.Tests.{eq-eqb, ne_eqb, le-leb, lt-leb}
use Rattle.names.specs.Names.{alnum, head, last}
use Rattle.reasons.specs.declared.Mark.{Mark}
use Rattle.reasons.specs.declared.Mark.TheVariants.{Length, Label, After}
use Rattle.reasons.specs.Reason as reason
use Rattle.reasons.specs.Names.{mark_from, mark_of, length_reason, octet_reason, mark_reason, wire_reason}
use Rattle.reasons.specs.Names.{before, dot_reason, hyphen_reason, letter_reason, text_octet, text_reason}

-- ---- octets

-- an octet that stands there is read with any default
pub within-any : (s : List ℕ) (i d e : ℕ) → i < length s → get_or s i d ≡ get_or s i e
within-any s i d e h = let p = drop-cons s i d h in let q = drop-cons s i e h in cc

-- the ends of a list, one octet longer
pub head-snoc : (x : ℕ) (l : List ℕ) → 1 ≤ length l → head 0 (l ++ (x ∷ [])) ≡ head 0 l
head-snoc x [] h = absurd (omega arith)
head-snoc x (y ∷ l) h = refl

pub last-append : (d y : ℕ) (l t : List ℕ) → last d (l ++ (y ∷ t)) ≡ last y t
last-append d y [] t = refl
last-append d y (x ∷ l) t = last-append x y l t

-- ---- text

-- an octet between two others, by each test in turn
module _ (b n at x : ℕ) (e : x ≡ 95 → ⊥) where
  pub octet-dot : {r : ℕ} → x ≡ 46 → r ≡ dot_reason b n → r ≡ text_octet b n at x
  octet-dot d q = q ∙ simp (ne_eqb _ _ e, eq-eqb _ _ d)

  module _ (d : x ≡ 46 → ⊥) where
    pub octet-hyphen : {r : ℕ} → x ≡ 45 → r ≡ hyphen_reason b n at → r ≡ text_octet b n at x
    octet-hyphen h q = q ∙ simp (ne_eqb _ _ e, ne_eqb _ _ d, eq-eqb _ _ h)

    module _ (h : x ≡ 45 → ⊥) {a : Bool} (f : a ≡ alnum x) where
      pub octet-letter : {r : ℕ} → a ≡ true → r ≡ letter_reason at → r ≡ text_octet b n at x
      octet-letter t q = q ∙ simp (ne_eqb _ _ e, ne_eqb _ _ d, ne_eqb _ _ h, sym f ∙ t)

      pub octet-other : a ≡ false → reason.octet ≡ text_octet b n at x
      octet-other t = simp (ne_eqb _ _ e, ne_eqb _ _ d, ne_eqb _ _ h, sym f ∙ t)

module _ (s : List ℕ) (at : ℕ) (h : length s ≡ 0 → ⊥) {b : ℕ} (e : b ≡ before s at) where
  pub text-dot : length s ≤ at → b ≡ 46 → reason.dot ≡ text_reason s at
  unfolding text_reason
  text-dot l d = simp (ne_eqb _ _ h, le-leb _ _ l, sym e, eq-eqb _ _ d)

  pub text-hyphen : length s ≤ at → (b ≡ 46 → ⊥) → reason.hyphen ≡ text_reason s at
  unfolding text_reason
  text-hyphen l d = simp (ne_eqb _ _ h, le-leb _ _ l, sym e, ne_eqb _ _ d)

  pub text-within : {n r : ℕ} → at < length s → n ≡ get_or s (at + 1) 46 → r ≡ text_octet b n at (get_or s at 0) → r ≡ text_reason s at
  unfolding text_reason
  text-within l q f =
      f ∙ ap₂ (λ (b n : ℕ). text_octet b n at (get_or s at 0)) e q ∙ sym (simp (ne_eqb _ _ h, lt-leb _ _ l))

-- ---- the walk to a place

mark-end : (left at : ℕ) → mark_from left at [] ≡ Label
unfolding mark_from
mark-end left at = refl

module _ (x : ℕ) (xs : List ℕ) where
  pub mark-length : (left at : ℕ) → left ≡ 0 → at ≡ 0 → mark_from left at (x ∷ xs) ≡ Length
  unfolding mark_from
  mark-length zero zero e f = refl
  mark-length zero (suc at) e f = absurd (omega arith)
  mark-length (suc left) at e f = absurd (omega arith)

  pub mark-label : (left at : ℕ) → (left ≡ 0 → ⊥) → at ≡ 0 → mark_from left at (x ∷ xs) ≡ Label
  unfolding mark_from
  mark-label zero at e f = absurd (e refl)
  mark-label (suc left) zero e f = refl
  mark-label (suc left) (suc at) e f = absurd (omega arith)

  pub mark-after : (left at : ℕ) → left ≡ 0 → (at ≡ 0 → ⊥) → x ≡ 0 → mark_from left at (x ∷ xs) ≡ After
  unfolding mark_from
  mark-after zero zero e f z = absurd (f refl)
  mark-after zero (suc at) e f z = simp (eq-eqb x 0 z)
  mark-after (suc left) at e f z = absurd (omega arith)

  pub mark-opens : (left at : ℕ) → left ≡ 0 → (at ≡ 0 → ⊥) → (x ≡ 0 → ⊥) → mark_from left at (x ∷ xs) ≡ mark_from x (at - 1) xs
  unfolding mark_from
  mark-opens zero zero e f z = absurd (f refl)
  mark-opens zero (suc at) e f z = let k : at ≡ suc at - 1 = omega arith in simp (ne_eqb x 0 z) (ap (λ (j : ℕ). mark_from x j xs) k)
  mark-opens (suc left) at e f z = absurd (omega arith)

  pub mark-within : (left at : ℕ) → (left ≡ 0 → ⊥) → (at ≡ 0 → ⊥) → mark_from left at (x ∷ xs) ≡ mark_from (left - 1) (at - 1) xs
  unfolding mark_from
  mark-within zero at e f = absurd (e refl)
  mark-within (suc left) zero e f = absurd (f refl)
  mark-within (suc left) (suc at) e f =
      let k : at ≡ suc at - 1 = omega arith in
      let l : left ≡ suc left - 1 = omega arith in
      cc

-- what is left of the name decides, with `left` octets of a label still to come
pub record Marking (s : List ℕ) (at i left : ℕ) : Type 0 where
  pub within : i ≤ length s
  pub before : i ≤ at
  pub same : mark_of s at ≡ mark_from left (at - i) (drop i s)

pub mark-start : (s : List ℕ) (at : ℕ) → Marking s at 0 0
mark-start s at =
    let k : at ≡ at - 0 = omega arith in
    record { within = omega arith; before = omega arith; same = ap (λ (j : ℕ). mark_from 0 j s) k }

module _ (s : List ℕ) (at i left : ℕ) (m : Marking s at i left) where
  pub marked-end : length s ≤ i → Label ≡ mark_of s at
  marked-end h = sym (m.same ∙ ap (mark_from left (at - i)) (drop_of_length-le s h) ∙ mark-end left (at - i))

  module _ (h : i < length s) where
    here : mark_of s at ≡ mark_from left (at - i) (get_or s i 0 ∷ drop (i + 1) s)
    here = m.same ∙ ap (mark_from left (at - i)) (drop-cons s i 0 h ∙ rw (add-one i))

    pub marked-length : i ≡ at → left ≡ 0 → Length ≡ mark_of s at
    marked-length e z = sym (here ∙ mark-length (get_or s i 0) (drop (i + 1) s) left (at - i) z (omega arith))

    pub marked-label : i ≡ at → (left ≡ 0 → ⊥) → Label ≡ mark_of s at
    marked-label e z = sym (here ∙ mark-label (get_or s i 0) (drop (i + 1) s) left (at - i) z (omega arith))

    module _ (n : i ≡ at → ⊥) {x : ℕ} (q : x ≡ get_or s i 0) where
      further : at - i ≡ 0 → ⊥
      further e = let b = m.before in n (omega arith)

      nearer : at - i - 1 ≡ at - (i + 1)
      nearer = omega arith

      pub marked-after : left ≡ 0 → x ≡ 0 → After ≡ mark_of s at
      marked-after z e = sym (here ∙ mark-after (get_or s i 0) (drop (i + 1) s) left (at - i) z further (sym q ∙ e))

      pub marked-opens : left ≡ 0 → (x ≡ 0 → ⊥) → Marking s at (i + 1) x
      marked-opens z e =
          let b = m.before in
          record {
            within = omega arith;
            before = omega (arith, n);
            same =
                here ∙ mark-opens (get_or s i 0) (drop (i + 1) s) left (at - i) z further (λ y. e (q ∙ y))
                ∙ ap (λ (j : ℕ). mark_from (get_or s i 0) j (drop (i + 1) s)) nearer
                ∙ ap (λ (j : ℕ). mark_from j (at - (i + 1)) (drop (i + 1) s)) (sym q);
          }

      pub marked-within : (left ≡ 0 → ⊥) → Marking s at (i + 1) (left - 1)
      marked-within z =
          let b = m.before in
          record {
            within = omega arith;
            before = omega (arith, n);
            same =
                here ∙ mark-within (get_or s i 0) (drop (i + 1) s) left (at - i) z further
                ∙ ap (λ (j : ℕ). mark_from (left - 1) j (drop (i + 1) s)) nearer;
          }

-- ---- the reason by what stands at the place

module _ (s : List ℕ) (at : ℕ) (h : length s ≡ 0 → ⊥) where
  pub wire-cut : length s ≤ at → reason.cut ≡ wire_reason s at
  unfolding wire_reason
  wire-cut l = simp (ne_eqb _ _ h, le-leb _ _ l)

  module _ (l : at < length s) {x : ℕ} (q : x ≡ get_or s at 0) {m : Mark} (e : m ≡ mark_of s at) where
    pub wire-within : mark_reason m x ≡ wire_reason s at
    unfolding wire_reason
    wire-within = ap₂ mark_reason e q ∙ sym (simp (ne_eqb _ _ h, lt-leb _ _ l))

    pub wire-length : {r : ℕ} → m ≡ Length → r ≡ length_reason x → r ≡ wire_reason s at
    wire-length i f = f ∙ ap (λ (m : Mark). mark_reason m x) (sym i) ∙ wire-within

    pub wire-label : {r : ℕ} → m ≡ Label → r ≡ octet_reason x → r ≡ wire_reason s at
    wire-label i f = f ∙ ap (λ (m : Mark). mark_reason m x) (sym i) ∙ wire-within

    pub wire-after : m ≡ After → reason.after ≡ wire_reason s at
    wire-after i = ap (λ (m : Mark). mark_reason m x) (sym i) ∙ wire-within
