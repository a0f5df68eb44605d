-- The laws of the values' checks, each with the invariant of its loop. Assumes nothing.
use Rattle.std.specs.Prelude.{◌≡◌, refl, Bool, true, false, not, ◌&&◌, ℕ, ◌+◌, ◌%◌, ◌≤◌, ◌<◌, length, get_or, drop, eqb}
use Rattle.std.proofs.Math.Path.{sym, ap}
use Rattle.std.proofs.Common.{ap₂, ◌∙◌, arith, drop_of_length-le, drop-cons}
use Rattle.std.proofs.Math.Bool.{and-false, and-true}
use mathlib.Core.List.{List, ◌∷◌}
use borrow.Author.Tests.{le-leb, lt-leb, eq-eqb, ne_eqb}
use Rattle.octets.specs.ListsLaws.{take_rest, skip-within, skip-past}
use Rattle.octets.specs.Numbers.{at16, words}
use Rattle.octets.specs.NumbersLaws.{words-cons, words-end, words-length}
use Rattle.svcparams.specs.Key as key
use Rattle.svcparams.specs.Params.{rising, has, all_in, mandatory_good, strings_from, alpn_good, no_default_alpn_good, value_good}
use Rattle.svcparams.specs.TilingLaws.{rest}
use Rattle.svcparams.specs.Merge.{Ran}
use Rattle.svcparams.proofs.MergeLaws.{ran-answer}

-- ---- a mandatory list

module _ (v ks : List ℕ) where
  pub mandatory-none : length v ≡ 0 → false ≡ mandatory_good v ks
  unfolding mandatory_good
  mandatory-none h = simp (eq-eqb _ _ h)

  module _ (some : length v ≡ 0 → ⊥) where
    pub mandatory-odd : (length v % 2 ≡ 0 → ⊥) → false ≡ mandatory_good v ks
    unfolding mandatory_good
    mandatory-odd h = simp (ne_eqb _ _ some, ne_eqb _ _ h)

    mandatory-even : length v % 2 ≡ 0 → mandatory_good v ks ≡ rising 1 (words v) && all_in (words v) ks
    unfolding mandatory_good
    mandatory-even even = simp (ne_eqb _ _ some, eq-eqb _ _ even)

    pub mandatory-walked : {b : Bool} {n : ℕ} → length v % 2 ≡ 0 → rising 0 ks ≡ true → Ran (words v) ks b n → b ≡ mandatory_good v ks
    mandatory-walked even o r =
        let l = words-length v in
        ran-answer (words v) ks o (omega (arith, some)) r ∙ sym (mandatory-even even)

-- ---- a mandatory list whose keys are sought one by one

-- what is left of the list decides, its keys from `least` on
pub record Listing (ks m s : List ℕ) (least : ℕ) : Type 0 where
  pub left : mandatory_good m ks ≡ rising least (words s) && all_in (words s) ks

pub list-start : (ks m : List ℕ) → (length m ≡ 0 → ⊥) → length m % 2 ≡ 0 → Listing ks m m 1
list-start ks m some even = record { left = mandatory-even m ks some even }

module _ (ks m s : List ℕ) (least : ℕ) (f : Listing ks m s least) where
  pub list-end : length s ≤ 0 + 1 → true ≡ mandatory_good m ks
  unfolding rising all_in
  list-end h = sym (f.left ∙ ap (λ (ws : List ℕ). rising least ws && all_in ws ks) (words-end s 0 h))

  module _ {k : ℕ} (h : 0 + 1 < length s) (q : k ≡ at16 s 0) where
    list_at : mandatory_good m ks ≡ rising least (k ∷ words (drop 2 s)) && all_in (k ∷ words (drop 2 s)) ks
    list_at =
        f.left ∙ ap (λ (ws : List ℕ). rising least ws && all_in ws ks)
        (words-cons s 0 h ∙ ap (λ (x : ℕ). x ∷ words (drop 2 s)) (sym q))

    pub list-low : k < least → false ≡ mandatory_good m ks
    unfolding rising
    list-low l = sym (list_at ∙ simp (lt-leb _ _ l))

    module _ {b : Bool} (l : least ≤ k) (e : b ≡ has k ks) where
      pub list-absent : b ≡ false → false ≡ mandatory_good m ks
      unfolding all_in
      list-absent z = sym (list_at ∙ simp (sym e ∙ z, and-false))

      pub list-next : b ≡ true → Listing ks m (rest s 2) (k + 1)
      unfolding rising all_in
      list-next z =
          record {
            left = (list_at ∙ simp (le-leb _ _ l, sym e ∙ z))
                ∙ ap (λ (t : List ℕ). rising (k + 1) (words t) && all_in (words t) ks) (sym (take_rest 2 s));
          }

-- ---- strings, each after its length

pub strings-skip : (k : ℕ) (s : List ℕ) → k ≤ length s → strings_from k s ≡ strings_from 0 (drop k s)
unfolding strings_from
strings-skip = skip-within strings_from (λ k x xs. refl)

pub strings-past : (k : ℕ) (s : List ℕ) → length s < k → strings_from k s ≡ false
unfolding strings_from
strings-past = skip-past strings_from (λ k x xs. refl) (λ k. refl)

-- what is left of the value decides
pub record Strings (v s : List ℕ) : Type 0 where
  pub left : strings_from 0 v ≡ strings_from 0 s

pub strings-start : (v : List ℕ) → Strings v v
strings-start v = record { left = refl }

module _ (v s : List ℕ) (i : Strings v s) where
  pub strings-end : {b : Bool} → length s ≤ 0 → b ≡ eqb (length v) 0 → not b ≡ alpn_good v
  unfolding alpn_good strings_from
  strings-end h e = rw (e, i.left ∙ ap (strings_from 0) (drop_of_length-le s {i = 0} h)) (sym (and-true _))

  module _ {n : ℕ} (h : 1 ≤ length s) (e : n ≡ get_or s 0 0) where
    strings-at : strings_from 0 v ≡ not (eqb (get_or s 0 0) 0) && strings_from (get_or s 0 0) (drop 1 s)
    unfolding strings_from
    strings-at = i.left ∙ ap (strings_from 0) (drop-cons s 0 0 h)

    refused : not (eqb (get_or s 0 0) 0) && strings_from (get_or s 0 0) (drop 1 s) ≡ false → false ≡ alpn_good v
    unfolding alpn_good
    refused q = rw (strings-at ∙ q) (sym (and-false _))

    pub strings-empty : n ≡ 0 → false ≡ alpn_good v
    strings-empty z = refused (simp (eq-eqb _ _ (sym e ∙ z)))

    pub strings-over : (n ≡ 0 → ⊥) → length (rest s 1) < n → false ≡ alpn_good v
    strings-over z g =
        let l = ap length (take_rest 1 s) in
        refused (simp (ne_eqb _ _ (λ y. z (e ∙ y))) (strings-past (get_or s 0 0) (drop 1 s) (omega arith)))

    pub strings-next : (n ≡ 0 → ⊥) → n ≤ length (rest s 1) → Strings v (rest (rest s 1) n)
    strings-next z g =
        let l = ap length (take_rest 1 s) in
        record {
          left = strings-at ∙ (simp (ne_eqb _ _ (λ y. z (e ∙ y))))
              ∙ strings-skip (get_or s 0 0) (drop 1 s) (omega arith)
              ∙ ap₂ (λ (k : ℕ) (t : List ℕ). strings_from 0 (drop k t)) (sym e) (sym (take_rest 1 s))
              ∙ ap (strings_from 0) (sym (take_rest n (rest s 1)));
        }

-- ---- one value

module _ (k : ℕ) (v ks : List ℕ) where
  pub value-mandatory : {r : Bool} → k ≡ key.mandatory → r ≡ mandatory_good v ks → r ≡ value_good k v ks
  unfolding value_good
  value-mandatory h q = q ∙ sym (simp (eq-eqb _ _ h))

  module _ (n0 : k ≡ key.mandatory → ⊥) where
    pub value-alpn : {r : Bool} → k ≡ key.alpn → r ≡ alpn_good v → r ≡ value_good k v ks
    unfolding value_good
    value-alpn h q = q ∙ sym (simp (ne_eqb _ _ n0, eq-eqb _ _ h))

    module _ (n1 : k ≡ key.alpn → ⊥) where
      pub no-default-value : k ≡ key.no_default_alpn → value_good k v ks ≡ no_default_alpn_good v ks
      unfolding value_good
      no-default-value h = simp (ne_eqb _ _ n0, ne_eqb _ _ n1, eq-eqb _ _ h)

      pub value-no-default-alpn : {b : Bool} → k ≡ key.no_default_alpn → b ≡ has key.alpn ks → eqb (length v) 0 && b ≡ value_good k v ks
      value-no-default-alpn h q = ap (λ (b : Bool). eqb (length v) 0 && b) q ∙ sym (no-default-value h)

      module _ (n2 : k ≡ key.no_default_alpn → ⊥) where
        pub value-port : k ≡ key.port → eqb (length v) 2 ≡ value_good k v ks
        unfolding value_good
        value-port h = sym (simp (ne_eqb _ _ n0, ne_eqb _ _ n1, ne_eqb _ _ n2, eq-eqb _ _ h))

        pub value-other : (k ≡ key.port → ⊥) → true ≡ value_good k v ks
        unfolding value_good
        value-other h = sym (simp (ne_eqb _ _ n0, ne_eqb _ _ n1, ne_eqb _ _ n2, ne_eqb _ _ h))
