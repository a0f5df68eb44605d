-- The laws of a tiled field: the size of a parameter, the steps of `pairs` and `entries`, and the same steps at a place of the field.
-- Assumes nothing.
use Rattle.std.specs.Prelude.{◌≡◌, refl, cond, List, [], ◌∷◌, ℕ, zero, suc, ◌+◌, ◌-◌, ◌≤◌, ◌<◌, length, get_or, take, drop, ltb, eqb}
use Rattle.std.proofs.Common.{sym, ap₂, ◌∙◌, le_of_suc-le-suc, not-suc-le-zero, arith, length-drop, drop-drop, lt-ltb, le-ltb, ltb-false, eqb-true}
use Rattle.std.proofs.Math.Path.{ap}
use Rattle.std.proofs.lemmas.Bool.{eqb-false}
use Rattle.octets.specs.Cases.{by-test}
use Rattle.octets.specs.Numbers.{at16}
use Rattle.octets.specs.ListsLaws.{take_rest, skip-within, skip-any}
use Rattle.svcparams.specs.Params.{size_of, first, Tiled, bad, tiled, onto, after, pairs_from, pairs}
use Rattle.svcparams.specs.Param.{Param, keys}
use Rattle.svcparams.specs.Entries.{after_entry, entries_from, entries, keys_in}

pub bad-tiled : {kvs : List Param} → bad ≡ tiled kvs → ⊥
bad-tiled e = let z : ◌≡◌ {A = ℕ} 0 1 = cc in omega arith

-- ---- the size of the parameter that stands first

pub size-short : (s : List ℕ) → length s < 4 → 0 ≡ size_of s
unfolding size_of
size-short s h = simp (lt-ltb _ _ h)

pub size-over : (s : List ℕ) {k : ℕ} → 4 ≤ length s → k ≡ at16 s 2 → length s < 4 + k → 0 ≡ size_of s
unfolding size_of
size-over s {k} h e g =
    let g' : length s < 4 + at16 s 2 = omega arith in
    simp (le-ltb _ _ h, lt-ltb _ _ g')

pub size_fits : (s : List ℕ) {k : ℕ} → 4 ≤ length s → k ≡ at16 s 2 → 4 + k ≤ length s → 4 + k ≡ size_of s
unfolding size_of
size_fits s {k} h e g =
    let g' : 4 + at16 s 2 ≤ length s = omega arith in
    sym (simp (le-ltb _ _ h, le-ltb _ _ g') (omega arith))

-- the same of a length below 256, by its lower octet
module _ (s : List ℕ) {k : ℕ} (h : 4 ≤ length s) (z : get_or s 2 0 ≡ 0) (e : k ≡ get_or s 3 0) where
  low-length : k ≡ at16 s 2
  low-length = omega arith

  pub size-low-over : length s < 4 + k → 0 ≡ size_of s
  size-low-over g = size-over s h low-length g

  pub size-low-fits : 4 + k ≤ length s → 4 + k ≡ size_of s
  size-low-fits g = size_fits s h low-length g

-- a size that is not 0 is a header's at least, is within, and is what the length says
pub record Sized (s : List ℕ) (n : ℕ) : Type 0 where
  pub head : 4 ≤ n
  pub room : n ≤ length s
  pub says : n ≡ 4 + at16 s 2

pub sized : (s : List ℕ) → (size_of s ≡ 0 → ⊥) → Sized s (size_of s)
unfolding size_of
sized s =
    by-test (ltb (length s) 4) (λ b. let n = cond b 0 (cond (ltb (length s) (4 + at16 s 2)) 0 (4 + at16 s 2)) in (n ≡ 0 → ⊥) → Sized s n)
    (λ _ z. absurd (z refl))
    (λ e. by-test (ltb (length s) (4 + at16 s 2)) (λ b. let n = cond b 0 (4 + at16 s 2) in (n ≡ 0 → ⊥) → Sized s n)
    (λ _ z. absurd (z refl))
    (λ f z. record { head = omega arith; room = ltb-false _ _ f; says = refl }))

pub size_room : (s : List ℕ) → size_of s ≤ length s
size_room s =
    by-test (eqb (size_of s) 0) (λ _. size_of s ≤ length s)
    (λ e. let z : size_of s ≡ 0 = eqb-true _ _ e in omega arith)
    (λ e. (sized s (eqb-false _ _ e)).room)

pub size-head : (s : List ℕ) {n : ℕ} → n ≡ size_of s → (n ≡ 0 → ⊥) → 4 ≤ n
size-head s e z = let h = (sized s (λ y. z (e ∙ y))).head in omega arith

-- ---- the steps of `pairs` and `entries`

skip-pairs : (k : ℕ) (s : List ℕ) → k ≤ length s → pairs_from k s ≡ pairs (drop k s)
unfolding pairs_from
skip-pairs = skip-within pairs_from (λ k x xs. refl)

skip-entries : (k : ℕ) (s : List ℕ) → entries_from k s ≡ entries (drop k s)
unfolding entries_from
skip-entries = skip-any entries_from (λ k x xs. refl) (λ k. refl)

pub pairs-none : pairs [] ≡ tiled []
unfolding pairs_from
pairs-none = refl

pub pairs-bad : (s : List ℕ) → 0 < length s → size_of s ≡ 0 → pairs s ≡ bad
unfolding pairs_from
pairs-bad [] h e = absurd (not-suc-le-zero h)
pairs-bad (x ∷ xs) h e = ap (λ (n : ℕ). after (x ∷ xs) n (λ k. pairs_from k xs)) e

entries-bad : (s : List ℕ) → size_of s ≡ 0 → entries s ≡ []
unfolding entries_from
entries-bad [] e = refl
entries-bad (x ∷ xs) e = ap (λ (n : ℕ). after_entry (x ∷ xs) n (λ k. entries_from k xs)) e

pairs-at : (s : List ℕ) (n : ℕ) → size_of s ≡ suc n → suc n ≤ length s → pairs s ≡ onto (first s) (pairs (drop (suc n) s))
unfolding pairs_from
pairs-at [] n e h = absurd (not-suc-le-zero h)
pairs-at (x ∷ xs) n e h =
    ap (λ (n : ℕ). after (x ∷ xs) n (λ k. pairs_from k xs)) e
    ∙ ap (onto (first (x ∷ xs))) (skip-pairs n xs (le_of_suc-le-suc h))

entries_at : (s : List ℕ) (n : ℕ) → size_of s ≡ suc n → suc n ≤ length s → entries s ≡ first s ∷ entries (drop (suc n) s)
unfolding entries_from
entries_at [] n e h = absurd (not-suc-le-zero h)
entries_at (x ∷ xs) n e h =
    ap (λ (n : ℕ). after_entry (x ∷ xs) n (λ k. entries_from k xs)) e
    ∙ ap (λ (l : List Param). first (x ∷ xs) ∷ l) (skip-entries n xs)

pub pairs-cons : (s : List ℕ) → (size_of s ≡ 0 → ⊥) → pairs s ≡ onto (first s) (pairs (drop (size_of s) s))
pairs-cons s z =
    let r = size_room s in
    let e : size_of s ≡ suc (size_of s - 1) = omega arith in
    pairs-at s (size_of s - 1) e (omega arith) ∙ ap (λ (k : ℕ). onto (first s) (pairs (drop k s))) (sym e)

entries-cons : (s : List ℕ) → (size_of s ≡ 0 → ⊥) → entries s ≡ first s ∷ entries (drop (size_of s) s)
entries-cons s z =
    let r = size_room s in
    let e : size_of s ≡ suc (size_of s - 1) = omega arith in
    entries_at s (size_of s - 1) e (omega arith) ∙ ap (λ (k : ℕ). first s ∷ entries (drop k s)) (sym e)

-- ---- where the field is tiled, its parameters are those that it begins with

onto-tiled : (kv : Param) (t : Tiled) (kvs es : List Param) → onto kv t ≡ tiled kvs → ((ks : List Param) → t ≡ tiled ks → es ≡ ks)
    → kv ∷ es ≡ kvs
onto-tiled kv bad kvs es e f = absurd (bad-tiled e)
onto-tiled kv (tiled ks) kvs es e f = let q = f ks refl in cc

same_from : (k : ℕ) (s : List ℕ) (kvs : List Param) → pairs_from k s ≡ tiled kvs → entries_from k s ≡ kvs
unfolding pairs_from entries_from
same_from zero [] kvs e = cc
same_from (suc k) [] kvs e = absurd (bad-tiled e)
same_from zero (x ∷ xs) kvs e = go (size_of (x ∷ xs)) e (λ n ks q. same_from n xs ks q)
  where
    go : (n : ℕ) → after (x ∷ xs) n (λ k. pairs_from k xs) ≡ tiled kvs
        → ((n : ℕ) (ks : List Param) → pairs_from n xs ≡ tiled ks → entries_from n xs ≡ ks)
        → after_entry (x ∷ xs) n (λ k. entries_from k xs) ≡ kvs
    go zero e ih = absurd (bad-tiled e)
    go (suc n) e ih = onto-tiled (first (x ∷ xs)) (pairs_from n xs) kvs (entries_from n xs) e (ih n)
same_from (suc k) (x ∷ xs) kvs e = same_from k xs kvs e

pub entries-tiled : (s : List ℕ) (kvs : List Param) → pairs s ≡ tiled kvs → entries s ≡ kvs
entries-tiled s kvs e = same_from 0 s kvs e

-- ---- the same steps of what is left of the field

-- the octets from a place on, as `&s[n..]` has them
abbrev pub rest : List ℕ → ℕ → List ℕ
rest s n = take (length s - n) (drop n s)

-- the parameter of n octets that stands first, its value as `&s[4..n]` has it
abbrev pub first_of : List ℕ → ℕ → Param
first_of s n = record { key = at16 s 0; value = take (n - 4) (drop 4 s) }

module _ (s : List ℕ) where
  pub left-bad : 0 < length s → 0 ≡ size_of s → pairs s ≡ bad
  left-bad h e = pairs-bad s h (sym e)

  pub left-none : 0 ≡ size_of s → entries s ≡ []
  left-none e = entries-bad s (sym e)

  pub left-end : 0 ≡ size_of s → keys_in s ≡ []
  unfolding keys
  left-end e = ap keys (left-none e)

  module _ {n : ℕ} (e : n ≡ size_of s) (h : 4 ≤ n) where
    some : size_of s ≡ 0 → ⊥
    some z = omega arith

    pub left-pairs : pairs s ≡ onto (first_of s n) (pairs (rest s n))
    left-pairs =
        pairs-cons s some ∙ ap (λ (m : ℕ). onto (first_of s m) (pairs (drop m s))) (sym e)
        ∙ ap (λ (l : List ℕ). onto (first_of s n) (pairs l)) (sym (take_rest n s))

    pub left-entries : entries s ≡ first_of s n ∷ entries (rest s n)
    left-entries =
        entries-cons s some ∙ ap (λ (m : ℕ). first_of s m ∷ entries (drop m s)) (sym e)
        ∙ ap (λ (l : List ℕ). first_of s n ∷ entries l) (sym (take_rest n s))

    pub left_keys : keys_in s ≡ at16 s 0 ∷ keys_in (rest s n)
    unfolding keys
    left_keys = ap keys left-entries

-- ---- the same steps at a place of the field

-- the value of the parameter of n octets that stands at a place, as `&s[4..n]` has it
abbrev pub value_at : List ℕ → ℕ → ℕ → List ℕ
value_at p at n = take (n - 4) (drop 4 (rest p at))

abbrev pub param_at : List ℕ → ℕ → ℕ → Param
param_at p at n = record { key = at16 (rest p at) 0; value = value_at p at n }

module _ (p : List ℕ) (at : ℕ) {n : ℕ} (e : n ≡ size_of (rest p at)) where
  is-size : size_of (drop at p) ≡ n
  is-size = sym (e ∙ ap size_of (take_rest at p))

  pub stop-entries : n ≡ 0 → entries (drop at p) ≡ []
  stop-entries z = entries-bad (drop at p) (is-size ∙ z)

  pub next-room : n ≤ length p - at
  next-room =
      let q = is-size in
      let h = size_room (drop at p) in
      let l = length-drop at p in
      omega arith

  first-is : first (drop at p) ≡ param_at p at n
  first-is = ap₂ (λ (l : List ℕ) (m : ℕ). record { key = at16 l 0; value = take (m - 4) (drop 4 l) }) (sym (take_rest at p)) is-size

  left_is : drop (size_of (drop at p)) (drop at p) ≡ drop (at + n) p
  left_is = ap (λ (m : ℕ). drop m (drop at p)) is-size ∙ drop-drop n at p

  pub next-entries : (n ≡ 0 → ⊥) → entries (drop at p) ≡ param_at p at n ∷ entries (drop (at + n) p)
  next-entries z = entries-cons (drop at p) (λ y. z (sym is-size ∙ y)) ∙ ap₂ (λ (kv : Param) (l : List ℕ). kv ∷ entries l) first-is left_is

  pub stop-keys : n ≡ 0 → keys_in (drop at p) ≡ []
  unfolding keys
  stop-keys z = ap keys (stop-entries z)

  pub next_keys : (n ≡ 0 → ⊥) → keys_in (drop at p) ≡ at16 (rest p at) 0 ∷ keys_in (drop (at + n) p)
  unfolding keys
  next_keys z = ap keys (next-entries z)
