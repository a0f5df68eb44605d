-- The two searches for a parameter at fault, each with the invariant of its loop. Assumes nothing.
use Rattle.std.specs.Prelude.{◌≡◌, Bool, true, false, cond, ◌||◌, take, ltb, eqb}
use Rattle.std.proofs.Math.Path.{refl, sym, ap, ap₂}
use Rattle.std.proofs.Common.{◌∙◌, length-drop, drop_of_length-le, drop-drop, lt-ltb, le-ltb, eq-eqb, ne_eqb}
use Rattle.std.proofs.Math.Bool.{or-true}
use mathlib.Core.List.{List, [], ◌∷◌}
use Prim.Native.Nat.{ℕ, zero, suc, ◌+◌, ◌-◌, ◌≤◌, ◌<◌}
use native.Mathlib.Omega.{arith}
use Rattle.std.proofs.Math.ListN.{length, drop}
use Rattle.octets.specs.Numbers.{at16}
use Rattle.octets.specs.ListsLaws.{take_rest}
use Rattle.svcparams.specs.Key as key
use Rattle.svcparams.specs.Params.{size_of}
use Rattle.svcparams.specs.TilingLaws.{rest, value_at, sized}
use Rattle.reasons.specs.Params.{Param, param, nothing, none, on, unordered_from, wrong_of, wrong_from}

-- a parameter that stands at a place of the field, its size as the code has it
module _ (p : List ℕ) (at : ℕ) {n : ℕ} (e : n ≡ size_of (rest p at)) where
  is-size : size_of (drop at p) ≡ n
  is-size = sym (e ∙ ap size_of (take_rest at p))

  some : 4 ≤ n → size_of (drop at p) ≡ 0 → ⊥
  some z y =
      let q = is-size in
      omega arith

  size_fits : 4 ≤ n → n ≤ length p - at
  size_fits z =
      let h = (sized (drop at p) (some z)).room in
      let q = is-size in
      let l = length-drop at p in
      omega arith

  key-is : {k : ℕ} → k ≡ at16 (rest p at) 0 → at16 (drop at p) 0 ≡ k
  key-is q = sym (q ∙ ap (λ (l : List ℕ). at16 l 0) (take_rest at p))

-- ---- keys in order

skip-unordered : (k at least : ℕ) (s : List ℕ) → k ≤ length s → unordered_from k at least s ≡ unordered_from 0 (at + k) least (drop k s)
unfolding unordered_from
skip-unordered zero at least s h = let e : at ≡ at + 0 = omega arith in ap (λ (j : ℕ). unordered_from 0 j least s) e
skip-unordered (suc k) at least [] h = absurd (omega arith)
skip-unordered (suc k) at least (x ∷ xs) h =
    let e : at + 1 + k ≡ at + suc k = omega arith in
    skip-unordered k (at + 1) least xs (omega arith) ∙ ap (λ (j : ℕ). unordered_from 0 j least (drop k xs)) e

-- what the search makes of a parameter with key k at a place, by what it makes of those after it
abbrev pub keyed : ℕ → ℕ → ℕ → Param → Param
keyed at least k after = cond (ltb k least || eqb k key.invalid) (param at k) after

-- what the search makes of a parameter that stands first
module _ (at least : ℕ) (s : List ℕ) where
  pub short-unordered : 0 < length s → size_of s ≡ 0 → unordered_from 0 at least s ≡ param at none
  unfolding unordered_from
  short-unordered = go s
    where
      go : (s : List ℕ) → 0 < length s → size_of s ≡ 0 → unordered_from 0 at least s ≡ param at none
      go [] h e = absurd (omega arith)
      go (x ∷ xs) h e =
          ap (λ (n : ℕ). on n (param at none) (λ k. keyed at least (at16 (x ∷ xs) 0) (unordered_from k (at + 1) (at16 (x ∷ xs) 0 + 1) xs))) e

  pub whole-unordered : (size_of s ≡ 0 → ⊥)
      → unordered_from 0 at least s ≡ keyed at least (at16 s 0) (unordered_from 0 (at + size_of s) (at16 s 0 + 1) (drop (size_of s) s))
  unfolding unordered_from
  whole-unordered z = let h = sized s z in go s (size_of s - 1) (omega (arith, h.head)) (omega (arith, h.head, h.room))
    where
      go : (s : List ℕ) (n : ℕ) → size_of s ≡ suc n → suc n ≤ length s
          → unordered_from 0 at least s ≡ keyed at least (at16 s 0) (unordered_from 0 (at + size_of s) (at16 s 0 + 1) (drop (size_of s) s))
      go [] n e h = absurd (omega arith)
      go (x ∷ xs) n e h =
          let j : at + 1 + n ≡ at + size_of (x ∷ xs) = omega arith in
          ap (λ (n : ℕ). on n (param at none) (λ k. keyed at least (at16 (x ∷ xs) 0) (unordered_from k (at + 1) (at16 (x ∷ xs) 0 + 1) xs))) e
          ∙ ap (keyed at least (at16 (x ∷ xs) 0))
          (skip-unordered n (at + 1) (at16 (x ∷ xs) 0 + 1) xs (omega arith)
          ∙ ap₂ (λ (j : ℕ) (l : List ℕ). unordered_from 0 j (at16 (x ∷ xs) 0 + 1) l) j (ap (λ (m : ℕ). drop m (x ∷ xs)) (sym e)))

-- what is left of the field decides, its keys from `least` on
pub record Ordering (p : List ℕ) (at least : ℕ) : Type 0 where
  pub within : at ≤ length p
  pub left : unordered_from 0 0 0 p ≡ unordered_from 0 at least (drop at p)

pub ordering-start : (p : List ℕ) → Ordering p 0 0
ordering-start p = record { within = omega arith; left = refl }

module _ (p : List ℕ) (at least : ℕ) (i : Ordering p at least) where
  pub ordering-end : length p ≤ at → nothing ≡ unordered_from 0 0 0 p
  unfolding unordered_from
  ordering-end h = sym (i.left ∙ ap (unordered_from 0 at least) (drop_of_length-le p h))

  pub ordering-short : 0 ≡ size_of (rest p at) → at < length p → param at none ≡ unordered_from 0 0 0 p
  ordering-short e h = sym (i.left ∙ short-unordered at least (drop at p) (simp length-drop (omega arith)) (is-size p at e))

  module _ {n : ℕ} (e : n ≡ size_of (rest p at)) where
    module _ {k : ℕ} (z : 4 ≤ n) (q : k ≡ at16 (rest p at) 0) where
      onward : unordered_from 0 0 0 p ≡ keyed at least k (unordered_from 0 (at + n) (k + 1) (drop (at + n) p))
      onward =
          i.left ∙ whole-unordered at least (drop at p) (some p at e z)
          ∙ ap₂ (λ (k m : ℕ). keyed at least k (unordered_from 0 (at + m) (k + 1) (drop m (drop at p)))) (key-is p at e q) (is-size p at e)
          ∙ ap (λ (l : List ℕ). keyed at least k (unordered_from 0 (at + n) (k + 1) l)) (drop-drop n at p)

      pub ordering-low : k < least → param at k ≡ unordered_from 0 0 0 p
      ordering-low h = sym (onward ∙ simp (lt-ltb _ _ h))

      pub ordering-invalid : k ≡ key.invalid → param at k ≡ unordered_from 0 0 0 p
      ordering-invalid h = sym (onward ∙ simp (eq-eqb _ _ h, or-true))

      pub ordering-next : least ≤ k → (k ≡ key.invalid → ⊥) → Ordering p (at + n) (k + 1)
      ordering-next h g =
          let r = size_fits p at e z in
          let w = i.within in
          record { within = omega arith; left = onward ∙ simp (le-ltb _ _ h, ne_eqb _ _ g) }

-- ---- hints and values

module _ (hints : Bool) (ks : List ℕ) where
  skip-wrong : (k at : ℕ) (s : List ℕ) → k ≤ length s → wrong_from hints ks k at s ≡ wrong_from hints ks 0 (at + k) (drop k s)
  unfolding wrong_from
  skip-wrong zero at s h = let e : at ≡ at + 0 = omega arith in ap (λ (j : ℕ). wrong_from hints ks 0 j s) e
  skip-wrong (suc k) at [] h = absurd (omega arith)
  skip-wrong (suc k) at (x ∷ xs) h =
      let e : at + 1 + k ≡ at + suc k = omega arith in
      skip-wrong k (at + 1) xs (omega arith) ∙ ap (λ (j : ℕ). wrong_from hints ks 0 j (drop k xs)) e

  -- whether the parameter that stands first, of so many octets, is wrong
  abbrev judged : List ℕ → ℕ → Bool
  judged s n = wrong_of hints ks (at16 s 0) (take (n - 4) (drop 4 s))

  -- what the search makes of it, by what it makes of those after it
  abbrev sought : ℕ → List ℕ → Param → Param
  sought at s after = cond (judged s (size_of s)) (param at (at16 s 0)) after

  short-wrong : (at : ℕ) (s : List ℕ) → size_of s ≡ 0 → wrong_from hints ks 0 at s ≡ nothing
  unfolding wrong_from
  short-wrong at [] e = refl
  short-wrong at (x ∷ xs) e = ap (λ (n : ℕ). on n nothing (λ k.
      sought at (x ∷ xs) (wrong_from hints ks k (at + 1) xs))) e

  pub whole-wrong : (at : ℕ) (s : List ℕ) → (size_of s ≡ 0 → ⊥)
      → wrong_from hints ks 0 at s ≡ sought at s (wrong_from hints ks 0 (at + size_of s) (drop (size_of s) s))
  unfolding wrong_from
  whole-wrong at s z = let h = sized s z in go s (size_of s - 1) (omega (arith, h.head)) (omega (arith, h.head, h.room))
    where
      go : (s : List ℕ) (n : ℕ) → size_of s ≡ suc n → suc n ≤ length s
          → wrong_from hints ks 0 at s ≡ sought at s (wrong_from hints ks 0 (at + size_of s) (drop (size_of s) s))
      go [] n e h = absurd (omega arith)
      go (x ∷ xs) n e h =
          let j : at + 1 + n ≡ at + size_of (x ∷ xs) = omega arith in
          ap (λ (n : ℕ). on n nothing (λ k.
          sought at (x ∷ xs) (wrong_from hints ks k (at + 1) xs))) e
          ∙ ap (sought at (x ∷ xs))
          (skip-wrong n (at + 1) xs (omega arith)
          ∙ ap₂ (λ (j : ℕ) (l : List ℕ). wrong_from hints ks 0 j l) j (ap (λ (m : ℕ). drop m (x ∷ xs)) (sym e)))

-- what is left of the field decides
pub record Seeking (hints : Bool) (ks p : List ℕ) (at : ℕ) : Type 0 where
  pub within : at ≤ length p
  pub left : wrong_from hints ks 0 0 p ≡ wrong_from hints ks 0 at (drop at p)

pub seeking-start : (hints : Bool) (ks p : List ℕ) → Seeking hints ks p 0
seeking-start hints ks p = record { within = omega arith; left = refl }

module _ (hints : Bool) (ks p : List ℕ) (at : ℕ) (i : Seeking hints ks p at) where
  pub seeking-end : 0 ≡ size_of (rest p at) → nothing ≡ wrong_from hints ks 0 0 p
  seeking-end e = sym (i.left ∙ short-wrong hints ks at (drop at p) (is-size p at e))

  module _ {n k : ℕ} {b : Bool} (e : n ≡ size_of (rest p at)) (z : 4 ≤ n) (q : k ≡ at16 (rest p at) 0) (g : b ≡ wrong_of hints ks k (value_at p at n)) where
    judged-is : (judged hints ks (drop at p) (size_of (drop at p)) ≡ b) × (at16 (drop at p) 0 ≡ k)
    judged-is = (
      ap₂ (λ (l : List ℕ) (m : ℕ). judged hints ks l m) (sym (take_rest at p)) (is-size p at e)
          ∙ ap (λ (x : ℕ). wrong_of hints ks x (value_at p at n)) (sym q) ∙ sym g,
      key-is p at e q,
    )

    -- what the search makes of the field after n octets of the parameter
    abbrev left_after : ℕ → Param
    left_after m = wrong_from hints ks 0 (at + m) (drop m (drop at p))

    toward : wrong_from hints ks 0 0 p ≡ cond b (param at k) (wrong_from hints ks 0 (at + n) (drop (at + n) p))
    toward =
        i.left ∙ whole-wrong hints ks at (drop at p) (some p at e z)
        ∙ ap₂ (λ (b : Bool) (k : ℕ). cond b (param at k) (left_after (size_of (drop at p)))) judged-is.0 judged-is.1
        ∙ ap (λ (m : ℕ). cond b (param at k) (left_after m)) (is-size p at e)
        ∙ ap (λ (l : List ℕ). cond b (param at k) (wrong_from hints ks 0 (at + n) l)) (drop-drop n at p)

    pub seeking-found : b ≡ true → param at k ≡ wrong_from hints ks 0 0 p
    seeking-found y = sym (toward ∙ simp y)

    pub seeking-next : b ≡ false → Seeking hints ks p (at + n)
    seeking-next y =
        let r = size_fits p at e z in
        let w = i.within in
        record { within = omega arith; left = toward ∙ simp y }
