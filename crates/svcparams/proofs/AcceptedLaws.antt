-- The laws of what is accepted: each test of the definitions decides what `Accepted` says of keys and values. Assumes nothing.
use Rattle.std.specs.Prelude.{◌≡◌, refl, Bool, true, false, not, ◌&&◌, ◌||◌, ◌⊎◌, List, [], ◌∷◌, ◌++◌, ℕ, zero, suc, ◌+◌, ◌*◌, ◌%◌, ◌≤◌, ◌<◌, length, take, drop, eqb, leb}
use Rattle.std.proofs.Common.{sym, ap, ◌∙◌, inl, inr, not-suc-le-zero, arith, length-drop, length-append, take-append-drop, drop_at, length-take-le, le-leb, eq-eqb, ne_eqb, eqb-true, leb-true, leb-false}
use Rattle.std.proofs.lemmas.Bool.{false≢true, eqb-false, not-true}
use Rattle.std.proofs.Math.Bool.{and-eq-true_iff, or-true}
use Rattle.octets.specs.Numbers.{Octet, Bytes, words, numbers_of}
use Rattle.octets.specs.NumbersLaws.{words_small, length-numbers, words-numbers, numbers-words}
use Rattle.svcparams.specs.Key as key
use Rattle.svcparams.specs.Params.{rising, has, is_hint, has_hint, all_in, mandatory_good, strings_from, alpn_good, no_default_alpn_good, value_good, all_good}
use Rattle.svcparams.specs.Param.{Param, keys}
use Rattle.svcparams.proofs.ValueLaws.{strings-skip, strings-past, value-mandatory, value-alpn, no-default-value, value-port, value-other}
use Rattle.svcparams.proofs.MergeLaws.{rising-parts}
use Rattle.octets.specs.Cases.{by-test}
use Rattle.octets.specs.Lists.{All}
use Rattle.octets.specs.ListsLaws.{all_drop, all_map}
use Rattle.svcparams.specs.Accepted.{Ascending, In, Fits, Hinted, Mandatory, strings_of, Alpn, Allowed}

one_of : (a b : Bool) → a || b ≡ true → (a ≡ true) ⊎ (b ≡ true)
one_of true b e = inl refl
one_of false b e = inr e

by_equal : (a b : ℕ) {X : Type 0} → (a ≡ b → X) → ((a ≡ b → ⊥) → X) → X
by_equal a b {X} f g = by-test (eqb a b) (λ _. X) (λ e. f (eqb-true _ _ e)) (λ e. g (eqb-false _ _ e))

-- ---- keys that rise

pub above-next : (k : ℕ) (ks : List ℕ) → All (λ x. k < x) ks → All (λ x. k + 1 ≤ x) ks
above-next k ks a = all_map (λ x. k < x) (λ x. k + 1 ≤ x) ks (λ x h. omega arith) a

pub next-above : (k : ℕ) (ks : List ℕ) → All (λ x. k + 1 ≤ x) ks → All (λ x. k < x) ks
next-above k ks a = all_map (λ x. k + 1 ≤ x) (λ x. k < x) ks (λ x h. omega arith) a

above-least : (k least : ℕ) (ks : List ℕ) → least ≤ k → All (λ x. k < x) ks → All (λ x. least ≤ x) ks
above-least k least ks h a = all_map (λ x. k < x) (λ x. least ≤ x) ks (λ x above. omega arith) a

pub rising-means : (least : ℕ) (ks : List ℕ) → rising least ks ≡ true → All (λ k. least ≤ k) ks × Ascending ks
unfolding rising
rising-means least [] e = (tt, tt)
rising-means least (k ∷ ks) e =
    let q = rising-parts least k ks e in
    let l = q.0 in
    let r = rising-means (k + 1) ks q.1 in
    let a = next-above k ks r.0 in
    ((l, above-least k least ks l a), (a, r.1))

pub means-rising : (least : ℕ) (ks : List ℕ) → All (λ k. least ≤ k) ks → Ascending ks → rising least ks ≡ true
unfolding rising
means-rising least [] l a = refl
means-rising least (k ∷ ks) l a = simp (le-leb _ _ l.0, means-rising (k + 1) ks (above-next k ks a.0) a.1)

pub least_zero : (ks : List ℕ) → All (λ k. 0 ≤ k) ks
least_zero [] = tt
least_zero (k ∷ ks) = (omega arith, least_zero ks)

-- ---- a key among keys

has_in : (k : ℕ) (ks : List ℕ) → has k ks ≡ true → In k ks
unfolding has
has_in k [] e = absurd (false≢true e)
has_in k (x ∷ xs) e = go (one_of (eqb x k) (has k xs) e) (λ q. has_in k xs q)
  where
    go : (eqb x k ≡ true) ⊎ (has k xs ≡ true) → (has k xs ≡ true → In k xs) → (x ≡ k) ⊎ In k xs
    go (inl t) ih = inl (eqb-true _ _ t)
    go (inr t) ih = inr (ih t)

in-has : (k : ℕ) (ks : List ℕ) → In k ks → has k ks ≡ true
unfolding has
in-has k [] i = absurd i
in-has k (x ∷ xs) (inl e) = simp (eq-eqb _ _ e)
in-has k (x ∷ xs) (inr i) = simp (in-has k xs i, or-true)

-- a key of 16 bits that is not the invalid one is below it
pub valid-below : (kvs : List Param) → All Fits kvs → has key.invalid (keys kvs) ≡ false → All (λ k. k < key.invalid) (keys kvs)
unfolding has keys
valid-below [] f e = tt
valid-below (kv ∷ kvs) f e = go (eqb kv.key key.invalid) refl e (λ q. valid-below kvs f.1 q)
  where
    go : (b : Bool) → eqb kv.key key.invalid ≡ b → b || has key.invalid (keys kvs) ≡ false
        → (has key.invalid (keys kvs) ≡ false → All (λ k. k < key.invalid) (keys kvs)) → All (λ k. k < key.invalid) (kv.key ∷ keys kvs)
    go true t e ih = absurd (false≢true (sym e))
    go false t e ih = let n : kv.key ≡ key.invalid → ⊥ = eqb-false _ _ t in (omega (arith, f.0.key), ih e)

pub below-valid : (ks : List ℕ) → All (λ k. k < key.invalid) ks → has key.invalid ks ≡ false
unfolding has
below-valid [] h = refl
below-valid (k ∷ ks) h = simp (ne_eqb k key.invalid (λ e. omega (arith, h.0)), below-valid ks h.1)

-- ---- hints

abbrev HintIn : List ℕ → Type 0
HintIn ks = In key.ipv4hint ks ⊎ In key.ipv6hint ks

hint-in : (ks : List ℕ) → has_hint ks ≡ true → HintIn ks
unfolding has_hint
hint-in [] e = absurd (false≢true e)
hint-in (k ∷ ks) e = go (one_of (is_hint k) (has_hint ks) e) (λ q. hint-in ks q)
  where
    here : (eqb k key.ipv4hint ≡ true) ⊎ (eqb k key.ipv6hint ≡ true) → HintIn (k ∷ ks)
    here (inl t) = inl (inl (eqb-true _ _ t))
    here (inr t) = inr (inl (eqb-true _ _ t))

    later : HintIn ks → HintIn (k ∷ ks)
    later (inl i) = inl (inr i)
    later (inr i) = inr (inr i)

    go : (is_hint k ≡ true) ⊎ (has_hint ks ≡ true) → (has_hint ks ≡ true → HintIn ks) → HintIn (k ∷ ks)
    go (inl t) ih = here (one_of (eqb k key.ipv4hint) (eqb k key.ipv6hint) t)
    go (inr t) ih = later (ih t)

in-hint : (ks : List ℕ) → HintIn ks → has_hint ks ≡ true
unfolding has_hint
in-hint [] (inl i) = absurd i
in-hint [] (inr i) = absurd i
in-hint (k ∷ ks) (inl (inl e)) = simp (eq-eqb _ _ e)
in-hint (k ∷ ks) (inl (inr i)) = simp (in-hint ks (inl i), or-true)
in-hint (k ∷ ks) (inr (inl e)) = simp (eq-eqb _ _ e, or-true)
in-hint (k ∷ ks) (inr (inr i)) = simp (in-hint ks (inr i), or-true)

pub hint-means : (kvs : List Param) → has_hint (keys kvs) ≡ true → Hinted kvs
hint-means kvs e = hint-in (keys kvs) e

pub means-hint : (kvs : List Param) → Hinted kvs → has_hint (keys kvs) ≡ true
means-hint kvs h = in-hint (keys kvs) h

-- ---- a mandatory list

pub all-each : (ws ks : List ℕ) → all_in ws ks ≡ true → All (λ w. In w ks) ws
unfolding all_in
all-each [] ks e = tt
all-each (w ∷ ws) ks e = let q = (and-eq-true_iff (has w ks) (all_in ws ks)).0 e in (has_in w ks q.0, all-each ws ks q.1)

pub each_all : (ws ks : List ℕ) → All (λ w. In w ks) ws → all_in ws ks ≡ true
unfolding all_in
each_all [] ks h = refl
each_all (w ∷ ws) ks h = simp (in-has w ks h.0, each_all ws ks h.1)

mandatory-good : (ks v ws : List ℕ) → Mandatory ks v ws → mandatory_good v ks ≡ true
unfolding mandatory_good
mandatory-good ks v ws m =
    let n : length v ≡ 2 * length ws = ap length m.laid ∙ length-numbers ws in
    let s = m.some in
    let w : words v ≡ ws = ap words m.laid ∙ words-numbers ws m.narrow in
    let z : length v ≡ 0 → ⊥ = λ y. omega arith in
    let e : length v % 2 ≡ 0 = omega arith in
    simp (ne_eqb _ _ z, eq-eqb _ _ e, w, means-rising 1 ws (above-next 0 ws m.nonzero) m.rise, each_all ws ks m.present)

good-mandatory : (ks v : List ℕ) → Bytes v → mandatory_good v ks ≡ true → Mandatory ks v (words v)
unfolding mandatory_good
good-mandatory ks v o e =
    let q = (and-eq-true_iff (not (eqb (length v) 0) && eqb (length v % 2) 0 && rising 1 (words v)) (all_in (words v) ks)).0 e in
    let t = (and-eq-true_iff (not (eqb (length v) 0) && eqb (length v % 2) 0) (rising 1 (words v))).0 q.0 in
    let u = (and-eq-true_iff (not (eqb (length v) 0)) (eqb (length v % 2) 0)).0 t.0 in
    let z : length v ≡ 0 → ⊥ = eqb-false _ _ (not-true _ u.0) in
    let even : length v % 2 ≡ 0 = eqb-true _ _ u.1 in
    let r = rising-means 1 (words v) t.1 in
    let l : v ≡ numbers_of (words v) = sym (numbers-words v o even) in
    let n : length v ≡ 2 * length (words v) = ap length l ∙ length-numbers (words v) in
    record {
      laid = l;
      some = omega (arith, z);
      narrow = words_small v o;
      rise = r.1;
      nonzero = next-above 0 (words v) r.0;
      present = all-each (words v) ks q.1;
    }

-- ---- strings, each after its length

abbrev StringSize : List ℕ → Type 0
StringSize s = (0 < length s) × (length s < 256)

strings-good : (ss : List (List ℕ)) → All StringSize ss → strings_from 0 (strings_of ss) ≡ true
unfolding strings_from
strings-good [] h = refl
strings-good (s ∷ ss) h =
    let a = h.0 in
    let n : length s % 256 ≡ length s = omega arith in
    let l : length s ≤ length (s ++ strings_of ss) = omega (arith, length-append s (strings_of ss)) in
    ap (λ (x : ℕ). not (eqb x 0) && strings_from x (s ++ strings_of ss)) n
    ∙ (simp (ne_eqb (length s) 0 (λ y. omega arith)))
    ∙ strings-skip (length s) (s ++ strings_of ss) l
    ∙ ap (strings_from 0) (drop_at s (strings_of ss) (length s) refl)
    ∙ strings-good ss h.1

-- by a bound on the length
good-strings : (f : ℕ) (v : List ℕ) → length v ≤ f → Bytes v → strings_from 0 v ≡ true → (ss : List (List ℕ)) × (v ≡ strings_of ss) × All StringSize ss
unfolding strings_from
good-strings zero [] h o e = ([], refl, tt)
good-strings zero (x ∷ xs) h o e = absurd (not-suc-le-zero h)
good-strings (suc f) [] h o e = ([], refl, tt)
good-strings (suc f) (x ∷ xs) h o e =
    go ((and-eq-true_iff (not (eqb x 0)) (strings_from x xs)).0 e) (leb x (length xs)) refl
    (λ q. good-strings f (drop x xs) (simp length-drop (omega arith)) (all_drop Octet x xs o.1) q)
  where
    go : (not (eqb x 0) ≡ true) × (strings_from x xs ≡ true) → (b : Bool) → leb x (length xs) ≡ b
        → (strings_from 0 (drop x xs) ≡ true → (ss : List (List ℕ)) × (drop x xs ≡ strings_of ss) × All StringSize ss)
        → (ss : List (List ℕ)) × (x ∷ xs ≡ strings_of ss) × All StringSize ss
    go q false t ih = absurd (false≢true (sym (strings-past x xs (leb-false _ _ t)) ∙ q.1))
    go q true t ih =
        let z : x ≡ 0 → ⊥ = eqb-false _ _ (not-true _ q.0) in
        let le : x ≤ length xs = leb-true _ _ t in
        let r = ih (sym (strings-skip x xs le) ∙ q.1) in
        let l : length (take x xs) ≡ x = length-take-le x xs le in
        let n : length (take x xs) % 256 ≡ x = omega (arith, o.0) in
        let a = take-append-drop x xs in
        let d = r.1 in
        (take x xs ∷ r.0, cc, ((omega (arith, z), omega (arith, o.0)), r.2))

alpn-good : (v : List ℕ) (ss : List (List ℕ)) → Alpn v ss → alpn_good v ≡ true
unfolding alpn_good
alpn-good v [] a = absurd (not-suc-le-zero a.some)
alpn-good v (s ∷ ss) a =
    let l = ap length a.laid in
    simp (ne_eqb (length v) 0 (λ y. omega arith)) (ap (strings_from 0) a.laid ∙ strings-good (s ∷ ss) a.sizes)

good-alpn : (v : List ℕ) → Bytes v → alpn_good v ≡ true → (ss : List (List ℕ)) × Alpn v ss
unfolding alpn_good
good-alpn v o e =
    let q = (and-eq-true_iff (not (eqb (length v) 0)) (strings_from 0 v)).0 e in
    let r = good-strings (length v) v (omega arith) o q.1 in
    (r.0, record { laid = r.1; some = some r.0 (eqb-false _ _ (not-true _ q.0)) r.1; sizes = r.2 })
  where
    some : (ss : List (List ℕ)) → (length v ≡ 0 → ⊥) → v ≡ strings_of ss → 0 < length ss
    some [] z l = absurd (z (ap length l))
    some (s ∷ ss) z l = omega arith

-- ---- no-default-alpn

no-default-good : (ks v : List ℕ) → (length v ≡ 0) × In key.alpn ks → no_default_alpn_good v ks ≡ true
no-default-good ks v g = simp (eq-eqb _ _ g.0) (in-has key.alpn ks g.1)

good-no-default : (ks v : List ℕ) → no_default_alpn_good v ks ≡ true → (length v ≡ 0) × In key.alpn ks
good-no-default ks v e =
    let q = (and-eq-true_iff (eqb (length v) 0) (has key.alpn ks)).0 e in
    (eqb-true _ _ q.0, has_in key.alpn ks q.1)

-- ---- values

allowed-good : (ks : List ℕ) (kv : Param) → Allowed ks kv → value_good kv.key kv.value ks ≡ true
allowed-good ks kv g =
    let k = kv.key in
    let v = kv.value in
    by_equal k key.mandatory (λ e. let m = g.mandatory e in sym (value-mandatory k v ks e (sym (mandatory-good ks v m.0 m.1))))
    (λ n0. by_equal k key.alpn (λ e. let a = g.alpn e in sym (value-alpn k v ks n0 e (sym (alpn-good v a.0 a.1))))
    (λ n1. by_equal k key.no_default_alpn (λ e. no-default-value k v ks n0 n1 e ∙ no-default-good ks v (g.no_default_alpn e))
    (λ n2. by_equal k key.port (λ e. sym (value-port k v ks n0 n1 n2 e) ∙ eq-eqb _ _ (g.port e))
    (λ n3. sym (value-other k v ks n0 n1 n2 n3)))))

good-allowed : (ks : List ℕ) (kv : Param) → Bytes kv.value → value_good kv.key kv.value ks ≡ true → Allowed ks kv
unfolding value_good
good-allowed ks kv o e =
    let v = kv.value in
    record {
      mandatory = λ q. (words v, good-mandatory ks v o (ap (λ (x : ℕ). value_good x v ks) (sym q) ∙ e));
      alpn = λ q. good-alpn v o (ap (λ (x : ℕ). value_good x v ks) (sym q) ∙ e);
      no_default_alpn = λ q. good-no-default ks v (ap (λ (x : ℕ). value_good x v ks) (sym q) ∙ e);
      port = λ q. eqb-true _ _ (ap (λ (x : ℕ). value_good x v ks) (sym q) ∙ e);
    }

pub values-means : (ks : List ℕ) (kvs : List Param) → All (λ (kv : Param). Bytes kv.value) kvs → all_good kvs ks ≡ true → All (Allowed ks) kvs
unfolding all_good
values-means ks [] o e = tt
values-means ks (kv ∷ kvs) o e =
    let q = (and-eq-true_iff (value_good kv.key kv.value ks) (all_good kvs ks)).0 e in
    (good-allowed ks kv o.0 q.0, values-means ks kvs o.1 q.1)

pub means-values : (ks : List ℕ) (kvs : List Param) → All (Allowed ks) kvs → all_good kvs ks ≡ true
unfolding all_good
means-values ks [] g = refl
means-values ks (kv ∷ kvs) g = simp (allowed-good ks kv g.0, means-values ks kvs g.1)
