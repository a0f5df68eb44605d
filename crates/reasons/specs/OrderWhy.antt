-- Which parameter is the first that breaks the order of a field: along the field, what stands before it. Assumes nothing.
use Rattle.std.specs.Prelude.{◌≡◌, refl, cond, ◌||◌, ℕ, zero, suc, ◌+◌, ◌≤◌, ◌<◌, ltb, eqb, length, drop}
use Rattle.std.proofs.Math.Path.{sym, ap}
use Rattle.std.proofs.Common.{◌∙◌, subst, arith, length-drop, eqb-true, ltb-true, ltb-false}
use mathlib.Core.List.{List, [], ◌∷◌, ◌++◌, append_assoc}
use Rattle.std.proofs.Math.ListN.{length-append}
use Rattle.std.proofs.lemmas.Bool.{eqb-false}
use Rattle.octets.specs.Cases.{by-test}
use Rattle.octets.specs.Lists.{All}
use Rattle.octets.specs.ListsLaws.{all_drop, all_map}
use Rattle.octets.specs.Numbers.{Octet, Bytes}
use Rattle.numbers.specs.Fault as fault
use Rattle.svcparams.specs.Key as key
use Rattle.svcparams.specs.Param.{Param, keys}
use Rattle.svcparams.specs.Params.{size_of, first, params_fault}
use Rattle.svcparams.specs.Accepted.{Ascending, put, field_of, Fits}
use Rattle.svcparams.specs.FieldLaws.{put-size, first-laid}
use Rattle.svcparams.proofs.Exactly.{parameters-exactly}
use Rattle.reasons.specs.Params as told
use Rattle.reasons.specs.Params.{param, none, unordered_from, param_for}
use Rattle.reasons.specs.ParamsLaws.{short-unordered, whole-unordered}
use Rattle.reasons.specs.Claims as claims
use Rattle.reasons.specs.Claims.{Unordered, FirstUnordered}

-- ---- the parameter that stands first

-- the octets are that parameter, laid out, and what follows it
first-is : (s : List ℕ) → Bytes s → (size_of s ≡ 0 → ⊥) → (s ≡ put (first s) (drop (size_of s) s)) × Fits (first s)
first-is s o z = let l = first-laid s o z in (sym l.0, l.1)

-- what breaks the order after parameters with the keys ks, all from `least` on
data Breaks (least : ℕ) (ks rest : List ℕ) (k : ℕ) : Type 0 where
  short : k ≡ none → 0 < length rest → ((kv : Param) (t : List ℕ) → Fits kv → rest ≡ put kv t → ⊥) → Breaks least ks rest k
  low : (kv : Param) (t : List ℕ) → Fits kv → rest ≡ put kv t → k ≡ kv.key
      → (least ≤ kv.key → All (λ x. x < kv.key) ks → ⊥) → Breaks least ks rest k
  invalid : (kv : Param) (t : List ℕ) → Fits kv → rest ≡ put kv t → k ≡ kv.key → kv.key ≡ key.invalid → Breaks least ks rest k

breaks-more : (least j : ℕ) (ks rest : List ℕ) (k : ℕ) → Breaks (j + 1) ks rest k → Breaks least (j ∷ ks) rest k
breaks-more least j ks rest k (short e h n) = short e h n
breaks-more least j ks rest k (low kv t f i e n) = low kv t f i e (λ _ a. n (omega (arith, a.0)) a.1)
breaks-more least j ks rest k (invalid kv t f i e n) = invalid kv t f i e n

breaks-whole : (ks rest : List ℕ) (k : ℕ) → Breaks 0 ks rest k → Unordered ks rest k
breaks-whole ks rest k (short e h n) = claims.short e h n
breaks-whole ks rest k (low kv t f i e n) = claims.low kv t f i e (λ a. n (omega arith) a)
breaks-whole ks rest k (invalid kv t f i e n) = claims.invalid kv t f i e n

-- keys that rise from `least` on
record InOrder (least : ℕ) (kvs : List Param) : Type 0 where
  pub fits : All Fits kvs
  pub above : All (λ k. least ≤ k) (keys kvs)
  pub rise : Ascending (keys kvs)
  pub valid : All (λ k. k < key.invalid) (keys kvs)

none-ordered : (least : ℕ) → InOrder least []
unfolding keys
none-ordered least = record { fits = tt; above = tt; rise = tt; valid = tt }

one_more : (least : ℕ) (kv : Param) (kvs : List Param) → Fits kv → least ≤ kv.key → (kv.key ≡ key.invalid → ⊥) → InOrder (kv.key + 1) kvs
    → InOrder least (kv ∷ kvs)
unfolding keys
one_more least kv kvs f h n i =
    let j = f.key in
    record {
      fits = (f, i.fits);
      above = (h, all_map (λ x. kv.key + 1 ≤ x) (λ x. least ≤ x) (keys kvs) (λ x g. omega arith) i.above);
      rise = (all_map (λ x. kv.key + 1 ≤ x) (λ x. kv.key < x) (keys kvs) (λ x g. omega arith) i.above, i.rise);
      valid = (omega (arith, n), i.valid);
    }

record Broken (at least : ℕ) (s : List ℕ) (r : told.Param) : Type 0 where
  pub front : List Param
  pub rest : List ℕ
  pub is : s ≡ field_of front ++ rest
  pub ordered : InOrder least front
  pub place : r.at ≡ at + length (field_of front)
  pub breaks : Breaks least (keys front) rest r.key

module _ (at least : ℕ) (s : List ℕ) where
  broken-here : (k : ℕ) → Breaks least [] s k → Broken at least s (param at k)
  unfolding keys
  broken-here k b = record { front = []; rest = s; is = refl; ordered = none-ordered least; place = omega arith; breaks = b }

  module _ (o : Bytes s) (z : size_of s ≡ 0 → ⊥) where
    abbrev kv₁ : Param
    kv₁ = first s

    abbrev rest₁ : List ℕ
    rest₁ = drop (size_of s) s

    size_is : size_of s ≡ 4 + length kv₁.value
    size_is =
        let l = first-is s o z in
        ap size_of l.0 ∙ put-size kv₁ rest₁ l.1

    broken-later : (r : told.Param) → least ≤ kv₁.key → (kv₁.key ≡ key.invalid → ⊥)
        → Broken (at + size_of s) (kv₁.key + 1) rest₁ r → Broken at least s r
    unfolding keys
    broken-later r h n b =
        let l = first-is s o z in
        let q = b.place in
        let m = size_is in
        let a = length-append kv₁.value (field_of b.front) in
        record {
          front = kv₁ ∷ b.front;
          rest = b.rest;
          is = l.0 ∙ ap (put kv₁) b.is ∙ laid b.front b.rest;
          ordered = one_more least kv₁ b.front l.1 h n b.ordered;
          place = omega arith;
          breaks = breaks-more least kv₁.key (keys b.front) b.rest r.key b.breaks;
        }
      where
        laid : (kvs : List Param) (t : List ℕ) → put kv₁ (field_of kvs ++ t) ≡ put kv₁ (field_of kvs) ++ t
        laid kvs t = let e = sym (append_assoc kv₁.value (field_of kvs) t) in cc

-- the field from a place on is no parameters whose keys rise from `least` on
abbrev Disordered : ℕ → List ℕ → Type 0
Disordered least s = (kvs : List Param) → s ≡ field_of kvs → InOrder least kvs → ⊥

-- what follows the parameter that stands first
abbrev later : ℕ → List ℕ → List ℕ
later x xs = drop (size_of (x ∷ xs)) (x ∷ xs)

-- by a bound on the length
broken : (f : ℕ) (s : List ℕ) (at least : ℕ) → length s ≤ f → Bytes s → Disordered least s → Broken at least s (unordered_from 0 at least s)
broken zero [] at least h o d = absurd (d [] refl (none-ordered least))
broken (suc f) [] at least h o d = absurd (d [] refl (none-ordered least))
broken zero (x ∷ xs) at least h o d = absurd (omega arith)
broken (suc f) (x ∷ xs) at least h o d =
    by-test (eqb (size_of (x ∷ xs)) 0) (λ _. Broken at least (x ∷ xs) (unordered_from 0 at least (x ∷ xs)))
    (λ t. let z : size_of (x ∷ xs) ≡ 0 = eqb-true _ _ t in
    subst (Broken at least (x ∷ xs)) (sym (short-unordered at least (x ∷ xs) (omega arith) z))
    (broken-here at least (x ∷ xs) none
    (short refl (omega arith) (λ kv l g e. let q = put-size kv l g in let y = ap size_of e in omega arith))))
    (λ t. go (eqb-false _ _ t) (λ j. broken f (later x xs) (at + size_of (x ∷ xs)) j))
  where
    go : (size_of (x ∷ xs) ≡ 0 → ⊥)
        → ((j : ℕ) → length (later x xs) ≤ f → Bytes (later x xs) → Disordered j (later x xs)
        → Broken (at + size_of (x ∷ xs)) j (later x xs) (unordered_from 0 (at + size_of (x ∷ xs)) j (later x xs)))
        → Broken at least (x ∷ xs) (unordered_from 0 at least (x ∷ xs))
    go z ih =
        let l = first-is (x ∷ xs) o z in
        let kv : Param = first (x ∷ xs) in
        let t : List ℕ = later x xs in
        let r : told.Param = unordered_from 0 (at + size_of (x ∷ xs)) (kv.key + 1) t in
        subst (Broken at least (x ∷ xs)) (sym (whole-unordered at least (x ∷ xs) z))
        (by-test (ltb kv.key least) (λ b. Broken at least (x ∷ xs) (cond (b || eqb kv.key key.invalid) (param at kv.key) r))
        (λ u. let g : kv.key < least = ltb-true _ _ u in
        broken-here at least (x ∷ xs) kv.key (low kv t l.1 l.0 refl (λ m _. omega arith)))
        (λ u. let g : least ≤ kv.key = ltb-false _ _ u in
        by-test (eqb kv.key key.invalid) (λ b. Broken at least (x ∷ xs) (cond b (param at kv.key) r))
        (λ v. broken-here at least (x ∷ xs) kv.key (invalid kv t l.1 l.0 refl (eqb-true _ _ v)))
        (λ v. let n : kv.key ≡ key.invalid → ⊥ = eqb-false _ _ v in
        broken-later at least (x ∷ xs) o z r g n
        (ih (kv.key + 1) (simp length-drop (omega arith)) (all_drop Octet (size_of (x ∷ xs)) (x ∷ xs) o)
        (λ kvs e i. d (kv ∷ kvs) (l.0 ∙ ap (put kv) e) (one_more least kv kvs l.1 g n i))))))

pub unordered-true : (p : List ℕ) → Bytes p → params_fault p ≡ fault.parameters → FirstUnordered p (param_for fault.parameters p)
unfolding param_for
unordered-true p o e =
    let b = broken (length p) p 0 0 (omega arith) o
    (λ kvs q i. (parameters-exactly p o).0 e kvs (record { laid = q; fits = i.fits; rise = i.rise; valid = i.valid })) in
    let i = b.ordered in
    record {
      front = b.front;
      rest = b.rest;
      is = b.is;
      ordered = record { laid = refl; fits = i.fits; rise = i.rise; valid = i.valid };
      place = b.place ∙ (omega arith);
      breaks = breaks-whole (keys b.front) b.rest (param_for fault.parameters p).key b.breaks;
    }
