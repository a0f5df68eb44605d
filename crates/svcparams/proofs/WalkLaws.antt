-- The laws of the passes over a field, each with the invariant of its loop. Assumes nothing.
use Rattle.std.specs.Prelude.{◌≡◌, Bool, false, cond, not, ◌||◌, ℕ, ◌+◌, ◌-◌, ◌≤◌, ◌<◌, eqb, length, take, drop}
use Rattle.std.proofs.Math.Path.{refl, sym, ap}
use Rattle.std.proofs.Common.{◌∙◌}
use Rattle.std.proofs.Math.Bool.{true, and-false, or-false, or_assoc}
use mathlib.Core.List.{List, [], ◌∷◌}
use native.Mathlib.Omega.{arith}
use borrow.Author.Tests.{le-leb, lt-leb, eq-eqb, ne_eqb}
use Rattle.octets.specs.Numbers.{at16}
use Rattle.numbers.specs.Fault as fault
use Rattle.svcparams.specs.Key as key
use Rattle.svcparams.specs.Params.{size_of, Tiled, bad, tiled, onto, pairs, tiled_fault, params_fault}
use Rattle.svcparams.specs.Params.{rising, has, ordered, has_hint, value_good, all_good}
use Rattle.svcparams.specs.Param.{Param, keys}
use Rattle.svcparams.specs.Entries.{entries_from, entries, keys_in}
use Rattle.svcparams.specs.TilingLaws.{rest, first_of, pairs-none, entries-tiled, left-bad, left-none, left-end, left-pairs, left-entries, left_keys}
use Rattle.svcparams.proofs.ValueLaws.{value-other}
use Rattle.svcparams.proofs.MergeLaws.{rising-parts, low-absent}

no-octets : (s : List ℕ) → length s ≡ 0 → s ≡ []
no-octets [] h = refl
no-octets (x ∷ xs) h = absurd (omega arith)

-- ---- tiling, the order of keys, and hints

-- the fault of the values of a field
abbrev values_fault : List ℕ → ℕ
values_fault p = cond (not (all_good (entries p) (keys_in p))) fault.value 0

-- the fault of the field p by what is left of it: its keys are from `least` on, and `hinted` is whether a hint stood before
abbrev fault_from : List ℕ → ℕ → Bool → Tiled → ℕ
fault_from p least hinted bad = fault.parameters
fault_from p least hinted (tiled kvs) =
    cond (not (ordered least (keys kvs))) fault.parameters
    (cond (hinted || has_hint (keys kvs)) fault.hint
    (values_fault p))

module _ (p : List ℕ) (least : ℕ) (hinted : Bool) (kv : Param) where
  onto-low : (t : Tiled) → kv.key < least → fault_from p least hinted (onto kv t) ≡ fault.parameters
  unfolding rising keys
  onto-low bad h = refl
  onto-low (tiled kvs) h = simp (lt-leb _ _ h)

  onto-invalid : (t : Tiled) → kv.key ≡ key.invalid → fault_from p least hinted (onto kv t) ≡ fault.parameters
  unfolding has keys
  onto-invalid bad h = refl
  onto-invalid (tiled kvs) h = simp (eq-eqb _ _ h, and-false)

  onto-next : (t : Tiled) → least ≤ kv.key → (kv.key ≡ key.invalid → ⊥)
      → fault_from p least hinted (onto kv t) ≡ fault_from p (kv.key + 1) (hinted || (eqb kv.key key.ipv4hint || eqb kv.key key.ipv6hint)) t
  unfolding rising has has_hint keys
  onto-next bad h g = refl
  onto-next (tiled kvs) h g = simp (le-leb _ _ h, ne_eqb _ _ g, or_assoc)

-- what is left of the field decides its fault
pub record InOrder (p s : List ℕ) (least : ℕ) (hinted : Bool) : Type 0 where
  pub left : params_fault p ≡ fault_from p least hinted (pairs s)

pub order-start : (p : List ℕ) → InOrder p p 0 false
unfolding params_fault
order-start p = record { left = whole (pairs p) refl }
  where
    whole : (t : Tiled) → pairs p ≡ t → tiled_fault t ≡ fault_from p 0 false t
    whole bad e = refl
    whole (tiled kvs) e = simp (entries-tiled p kvs e)

module _ (p s : List ℕ) (least : ℕ) (hinted : Bool) (i : InOrder p s least hinted) where
  module _ (h : length s ≡ 0) where
    order-end : params_fault p ≡ cond hinted fault.hint (values_fault p)
    unfolding rising has has_hint keys
    order-end =
        i.left ∙ ap (λ (l : List ℕ). fault_from p least hinted (pairs l)) (no-octets s h)
        ∙ ap (fault_from p least hinted) pairs-none ∙ simp or-false

    pub order-hint : hinted ≡ true → fault.hint ≡ params_fault p
    order-hint z = sym (order-end ∙ simp z)

    module _ {v : Bool} (none : hinted ≡ false) (e : v ≡ all_good (entries p) (keys_in p)) where
      pub order_value : v ≡ false → fault.value ≡ params_fault p
      order_value z = sym (order-end ∙ simp (none, sym e ∙ z))

      pub order-none : v ≡ true → 0 ≡ params_fault p
      order-none z = sym (order-end ∙ simp (none, sym e ∙ z))

  pub order-bad : (length s ≡ 0 → ⊥) → 0 ≡ size_of s → fault.parameters ≡ params_fault p
  order-bad h e = sym (i.left ∙ ap (fault_from p least hinted) (left-bad s (omega arith) e))

  module _ {n k : ℕ} (e : n ≡ size_of s) (z : 4 ≤ n) (q : k ≡ at16 s 0) where
    onward : params_fault p ≡ fault_from p least hinted (onto (first_of s n) (pairs (rest s n)))
    onward = i.left ∙ ap (fault_from p least hinted) (left-pairs s e z)

    pub order-low : k < least → fault.parameters ≡ params_fault p
    order-low h = sym (onward ∙ onto-low p least hinted (first_of s n) (pairs (rest s n)) (omega arith))

    pub order-invalid : k ≡ key.invalid → fault.parameters ≡ params_fault p
    order-invalid h = sym (onward ∙ onto-invalid p least hinted (first_of s n) (pairs (rest s n)) (omega arith))

    pub order-next : least ≤ k → (k ≡ key.invalid → ⊥) → InOrder p (rest s n) (k + 1) (hinted || (eqb k key.ipv4hint || eqb k key.ipv6hint))
    order-next h g =
        record {
          left = onward ∙ onto-next p least hinted (first_of s n) (pairs (rest s n)) (omega arith) (λ y. g (q ∙ y))
              ∙ ap (λ (m : ℕ). fault_from p (m + 1) (hinted || (eqb m key.ipv4hint || eqb m key.ipv6hint)) (pairs (rest s n))) (sym q);
        }

-- ---- whether the keys rise

-- what is left of the field decides, its keys from `least` on
pub record Climbing (p s : List ℕ) (least : ℕ) : Type 0 where
  pub left : rising 0 (keys_in p) ≡ rising least (keys_in s)

pub climb-start : (p : List ℕ) → Climbing p p 0
climb-start p = record { left = refl }

module _ (p s : List ℕ) (least : ℕ) (i : Climbing p s least) where
  -- the field is at its end
  pub climb-over : length s ≡ 0 → rising 0 (keys_in p) ≡ true
  unfolding rising keys entries_from
  climb-over h = i.left ∙ ap (λ (l : List ℕ). rising least (keys_in l)) (no-octets s h)

  pub climb-end : 0 ≡ size_of s → true ≡ rising 0 (keys_in p)
  unfolding rising
  climb-end e = sym (i.left ∙ ap (rising least) (left-end s e))

  module _ {n k : ℕ} (e : n ≡ size_of s) (z : 4 ≤ n) (q : k ≡ at16 s 0) where
    climb-at : rising 0 (keys_in p) ≡ rising least (k ∷ keys_in (rest s n))
    climb-at =
        i.left ∙ ap (rising least) (left_keys s e z)
        ∙ ap (λ (x : ℕ). rising least (x ∷ keys_in (rest s n))) (sym q)

    pub climb-low : k < least → false ≡ rising 0 (keys_in p)
    unfolding rising
    climb-low h = sym (climb-at ∙ simp (lt-leb _ _ h))

    pub climb-next : least ≤ k → Climbing p (rest s n) (k + 1)
    unfolding rising
    climb-next h = record { left = climb-at ∙ simp (le-leb _ _ h) }

-- ---- a pass over the parameters, for any test of a list of them

-- what is left of the field decides
pub record Walk (test : List Param → Bool) (p s : List ℕ) : Type 0 where
  pub left : test (entries p) ≡ test (entries s)

walk_start : (test : List Param → Bool) (p : List ℕ) → Walk test p p
walk_start test p = record { left = refl }

module _ {test : List Param → Bool} (p s : List ℕ) (i : Walk test p s) where
  walk_end : 0 ≡ size_of s → test (entries p) ≡ test []
  walk_end e = i.left ∙ ap test (left-none s e)

  module _ {n : ℕ} (e : n ≡ size_of s) (z : 4 ≤ n) where
    walk_at : test (entries p) ≡ test (first_of s n ∷ entries (rest s n))
    walk_at = i.left ∙ ap test (left-entries s e z)

    walk-next : test (first_of s n ∷ entries (rest s n)) ≡ test (entries (rest s n)) → Walk test p (rest s n)
    walk-next same = record { left = walk_at ∙ same }

-- ---- whether a key is a parameter's

abbrev pub Seeking : ℕ → List ℕ → List ℕ → Type 0
Seeking sought p s = Walk (λ es. has sought (keys es)) p s

pub seek-start : (sought : ℕ) (p : List ℕ) → Seeking sought p p
seek-start sought p = walk_start _ p

module _ (sought : ℕ) (p s : List ℕ) (i : Seeking sought p s) where
  pub seek-end : 0 ≡ size_of s → false ≡ has sought (keys_in p)
  unfolding has keys
  seek-end e = sym (walk_end p s i e)

  module _ {n k : ℕ} (e : n ≡ size_of s) (z : 4 ≤ n) (q : k ≡ at16 s 0) where
    pub seek_found : k ≡ sought → true ≡ has sought (keys_in p)
    unfolding has keys
    seek_found h = sym (walk_at p s i e z ∙ simp (eq-eqb _ _ (sym q ∙ h)))

    pub seek-next : (k ≡ sought → ⊥) → Seeking sought p (rest s n)
    unfolding has keys
    seek-next h = walk-next p s i e z (simp (ne_eqb _ _ (λ y. h (q ∙ y))))

-- ---- whether each value is one that its key allows

-- parameters whose keys are above the port's have no rule
high-good : (least : ℕ) (kvs : List Param) (ks : List ℕ) → key.port < least → rising least (keys kvs) ≡ true → all_good kvs ks ≡ true
unfolding all_good keys
high-good least [] ks h e = refl
high-good least (kv ∷ kvs) ks h e =
    let q = rising-parts least kv.key (keys kvs) e in
    let l = q.0 in
    let no : (x : ℕ) → x ≤ key.port → kv.key ≡ x → ⊥ = λ x y z. omega arith in
    let v = value-other kv.key kv.value ks (no 0 (omega arith)) (no 1 (omega arith)) (no 2 (omega arith)) (no 3 (omega arith)) in
    simp (sym v) (high-good (kv.key + 1) kvs ks (omega arith) q.1)

-- keys that rise from a number on rise from any smaller one on
rising-below : (least a : ℕ) (ks : List ℕ) → a ≤ least → rising least ks ≡ true → rising a ks ≡ true
unfolding rising
rising-below least a [] h e = refl
rising-below least a (k ∷ ks) h e =
    let q = rising-parts least k ks e in
    let l = q.0 in
    let g : a ≤ k = omega arith in
    simp (le-leb _ _ g) q.1

-- what is left of the field decides, and its keys rise; `beside` is whether alpn stood before
pub record Valued (p s : List ℕ) (beside : Bool) : Type 0 where
  pub walk : Walk (λ es. all_good es (keys_in p)) p s
  pub rise : rising 0 (keys_in s) ≡ true
  pub alpn : has key.alpn (keys_in p) ≡ beside || has key.alpn (keys_in s)

pub values-start : (p : List ℕ) → rising 0 (keys_in p) ≡ true → Valued p p false
values-start p o = record { walk = walk_start _ p; rise = o; alpn = refl }

module _ (p s : List ℕ) (beside : Bool) (i : Valued p s beside) where
  pub values-end : 0 ≡ size_of s → true ≡ all_good (entries p) (keys_in p)
  unfolding all_good
  values-end e = sym (walk_end p s i.walk e)

  module _ {n k : ℕ} (e : n ≡ size_of s) (z : 4 ≤ n) (q : k ≡ at16 s 0) where
    upward : (0 ≤ at16 s 0) × (rising (at16 s 0 + 1) (keys_in (rest s n)) ≡ true)
    upward = rising-parts 0 (at16 s 0) (keys_in (rest s n)) (sym (ap (rising 0) (left_keys s e z)) ∙ i.rise)

    pub values-high : key.port < k → true ≡ all_good (entries p) (keys_in p)
    unfolding rising keys
    values-high h =
        let a : key.port < at16 s 0 = omega arith in
        let r : rising (at16 s 0) (at16 s 0 ∷ keys_in (rest s n)) ≡ true = simp (le-leb (at16 s 0) (at16 s 0) (omega arith)) upward.1 in
        sym (walk_at p s i.walk e z ∙ high-good (at16 s 0) (first_of s n ∷ entries (rest s n)) (keys_in p) a r)

    alpn-at : has key.alpn (keys_in p) ≡ beside || (eqb (at16 s 0) key.alpn || has key.alpn (keys_in (rest s n)))
    unfolding has
    alpn-at = i.alpn ∙ ap (λ (ks : List ℕ). beside || has key.alpn ks) (left_keys s e z)

    -- at no-default-alpn: alpn is there exactly if it stood before
    pub values-beside : k ≡ key.no_default_alpn → beside ≡ has key.alpn (keys_in p)
    values-beside h =
        let none = low-absent key.alpn (at16 s 0 + 1) (keys_in (rest s n)) (omega arith) upward.1 in
        let other : at16 s 0 ≡ key.alpn → ⊥ = λ y. omega arith in
        sym (alpn-at ∙ simp (ne_eqb _ _ other, none, or-false))

    module _ {b : Bool} (g : b ≡ value_good k (take (n - 4) (drop 4 s)) (keys_in p)) where
      judged : value_good (at16 s 0) (take (n - 4) (drop 4 s)) (keys_in p) ≡ b
      judged = ap (λ (x : ℕ). value_good x (take (n - 4) (drop 4 s)) (keys_in p)) (sym q) ∙ sym g

      pub values-bad : b ≡ false → false ≡ all_good (entries p) (keys_in p)
      unfolding all_good
      values-bad y = sym (walk_at p s i.walk e z ∙ simp (judged ∙ y))

      pub values-next : b ≡ true → Valued p (rest s n) (beside || eqb k key.alpn)
      unfolding all_good
      values-next y =
          record {
            walk = walk-next p s i.walk e z (simp (judged ∙ y));
            rise = rising-below (at16 s 0 + 1) 0 (keys_in (rest s n)) (omega arith) upward.1;
            alpn = alpn-at ∙ simp (sym q, or_assoc);
          }
