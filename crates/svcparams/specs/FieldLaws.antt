-- The laws of a field as parameters one after another: what is laid out is tiled by those parameters, and what is tiled is laid out so.
-- Assumes nothing.
use Rattle.std.specs.Prelude.{◌≡◌, refl, List, [], ◌∷◌, ◌++◌, ℕ, zero, suc, ◌+◌, ◌-◌, ◌*◌, ◌/◌, ◌%◌, ◌≤◌, ◌<◌, length, take, drop, eqb}
use Rattle.std.proofs.Common.{sym, ap, ap₂, ◌∙◌, subst, not-suc-le-zero, arith, length-drop, length-append, take-append-drop, take_at, drop_at, length-take-le, eqb-true}
use Rattle.std.proofs.lemmas.Bool.{eqb-false}
use Rattle.octets.specs.Numbers.{at16, Octet, Bytes}
use Rattle.svcparams.specs.Params.{size_of, first, Tiled, bad, tiled, onto, pairs}
use Rattle.svcparams.specs.Param.{Param}
use Rattle.svcparams.specs.TilingLaws.{bad-tiled, sized, size_fits, pairs-none, pairs-bad, pairs-cons}
use Rattle.octets.specs.Cases.{by-test}
use Rattle.octets.specs.Lists.{All}
use Rattle.octets.specs.ListsLaws.{all_left, all_right, all_drop}
use Rattle.svcparams.specs.Accepted.{put, field_of, Fits}

-- ---- what is laid out is tiled

module _ (kv : Param) (l : List ℕ) (f : Fits kv) where
  pub put-size : size_of (put kv l) ≡ 4 + length kv.value
  put-size =
      let h = f.size in
      let n : length (kv.value ++ l) ≡ length kv.value + length l = length-append kv.value l in
      sym (size_fits (put kv l) {k = length kv.value} (omega arith) (omega arith) (omega arith))

  pub put_first : first (put kv l) ≡ kv
  put_first =
      let h = f.key in
      let e : at16 (put kv l) 0 ≡ kv.key = omega arith in
      let z = put-size in
      let n : size_of (put kv l) - 4 ≡ length kv.value = omega arith in
      ap₂ (λ (k : ℕ) (v : List ℕ). record { key = k; value = v }) e
      (ap (λ (m : ℕ). take m (kv.value ++ l)) n ∙ take_at kv.value l (length kv.value) refl)

  pub put_rest : drop (size_of (put kv l)) (put kv l) ≡ l
  put_rest =
      let z = put-size in
      let n : size_of (put kv l) ≡ suc (suc (suc (suc (length kv.value)))) = omega arith in
      ap (λ (m : ℕ). drop m (put kv l)) n ∙ drop_at kv.value l (length kv.value) refl

pub field-tiled : (kvs : List Param) → All Fits kvs → pairs (field_of kvs) ≡ tiled kvs
field-tiled [] f = pairs-none
field-tiled (kv ∷ kvs) f =
    let l = field_of kvs in
    let z = put-size kv l f.0 in
    pairs-cons (put kv l) (λ y. omega arith)
    ∙ ap₂ (λ (x : Param) (r : List ℕ). onto x (pairs r)) (put_first kv l f.0) (put_rest kv l f.0)
    ∙ ap (onto kv) (field-tiled kvs f.1)

-- ---- what is tiled is laid out

put-again : (a b c d m : ℕ) (r : List ℕ) → a < 256 → b < 256 → c < 256 → d < 256 → m ≡ c * 256 + d → m ≤ length r
    → put (record { key = a * 256 + b; value = take m r }) (drop m r) ≡ a ∷ b ∷ c ∷ d ∷ r
put-again a b c d m r ha hb hc hd e h =
    let l : length (take m r) ≡ m = length-take-le m r h in
    let e1 : (a * 256 + b) / 256 % 256 ≡ a = omega arith in
    let e2 : (a * 256 + b) % 256 ≡ b = omega arith in
    let e3 : length (take m r) / 256 % 256 ≡ c = omega arith in
    let e4 : length (take m r) % 256 ≡ d = omega arith in
    let e5 = take-append-drop m r in
    cc

-- the parameter that stands first, laid out, and what follows it
pub first-laid : (s : List ℕ) → Bytes s → (size_of s ≡ 0 → ⊥) → (put (first s) (drop (size_of s) s) ≡ s) × Fits (first s)
first-laid [] o z = let q = sized [] z in absurd (omega (arith, q.head, q.room))
first-laid (a ∷ []) o z = let q = sized (a ∷ []) z in absurd (omega (arith, q.head, q.room))
first-laid (a ∷ b ∷ []) o z = let q = sized (a ∷ b ∷ []) z in absurd (omega (arith, q.head, q.room))
first-laid (a ∷ b ∷ c ∷ []) o z = let q = sized (a ∷ b ∷ c ∷ []) z in absurd (omega (arith, q.head, q.room))
first-laid (a ∷ b ∷ c ∷ d ∷ r) o z =
    let s = a ∷ b ∷ c ∷ d ∷ r in
    let q = sized s z in
    let e : size_of s ≡ suc (suc (suc (suc (c * 256 + d)))) = omega (arith, q.says) in
    let h : c * 256 + d ≤ length r = omega (arith, q.room) in
    let t : size_of s - 4 ≡ c * 256 + d = omega arith in
    let l : length (take (size_of s - 4) r) ≡ c * 256 + d = ap (λ (n : ℕ). length (take n r)) t ∙ length-take-le (c * 256 + d) r h in (
      ap₂ (λ (n k : ℕ). put (record { key = a * 256 + b; value = take n r }) (drop k s)) t e
          ∙ put-again a b c d (c * 256 + d) r o.0 o.1.0 o.1.1.0 o.1.1.1.0 refl h,
      record { key = omega (arith, o.0, o.1.0); size = omega (arith, o.1.1.0, o.1.1.1.0) },
    )

laid_none : (kvs : List Param) → pairs [] ≡ tiled kvs → ([] ≡ field_of kvs) × All Fits kvs
laid_none kvs e =
    let q : [] ≡ kvs = cc pairs-none in
    subst (λ (l : List Param). ([] ≡ field_of l) × All Fits l) q (refl, tt)

-- by a bound on the length
laid_by : (f : ℕ) (s : List ℕ) (kvs : List Param) → length s ≤ f → Bytes s → pairs s ≡ tiled kvs → (s ≡ field_of kvs) × All Fits kvs
laid_by zero [] kvs h o e = laid_none kvs e
laid_by zero (x ∷ xs) kvs h o e = absurd (not-suc-le-zero h)
laid_by (suc f) [] kvs h o e = laid_none kvs e
laid_by (suc f) (x ∷ xs) kvs h o e =
    by-test (eqb (size_of (x ∷ xs)) 0) (λ _. (x ∷ xs ≡ field_of kvs) × All Fits kvs)
    (λ t. absurd (bad-tiled (sym (pairs-bad (x ∷ xs) (omega arith) (eqb-true _ _ t)) ∙ e)))
    (λ t. go (eqb-false _ _ t) (pairs (drop (size_of (x ∷ xs)) (x ∷ xs))) refl
    (λ ks g q. laid_by f (drop (size_of (x ∷ xs)) (x ∷ xs)) ks g (all_drop Octet (size_of (x ∷ xs)) (x ∷ xs) o) q))
  where
    go : (size_of (x ∷ xs) ≡ 0 → ⊥) → (t : Tiled) → pairs (drop (size_of (x ∷ xs)) (x ∷ xs)) ≡ t
        → ((ks : List Param) → length (drop (size_of (x ∷ xs)) (x ∷ xs)) ≤ f → pairs (drop (size_of (x ∷ xs)) (x ∷ xs)) ≡ tiled ks
        → (drop (size_of (x ∷ xs)) (x ∷ xs) ≡ field_of ks) × All Fits ks)
        → (x ∷ xs ≡ field_of kvs) × All Fits kvs
    go z bad q ih = absurd (bad-tiled (ap (onto (first (x ∷ xs))) (sym q) ∙ sym (pairs-cons (x ∷ xs) z) ∙ e))
    go z (tiled ks) q ih =
        let w : first (x ∷ xs) ∷ ks ≡ kvs = cc (ap (onto (first (x ∷ xs))) (sym q), pairs-cons (x ∷ xs) z) in
        let i = ih ks (simp length-drop (omega arith)) q in
        let p = first-laid (x ∷ xs) o z in
        subst (λ (l : List Param). (x ∷ xs ≡ field_of l) × All Fits l) w
        (sym p.0 ∙ ap (λ (l : List ℕ). put (first (x ∷ xs)) l) i.0, (p.1, i.1))

pub tiled-field : (s : List ℕ) (kvs : List Param) → Bytes s → pairs s ≡ tiled kvs → (s ≡ field_of kvs) × All Fits kvs
tiled-field s kvs o e = laid_by (length s) s kvs (omega arith) o e

-- ---- the values of a field of octets are octets

pub field-octets : (kvs : List Param) → Bytes (field_of kvs) → All (λ (kv : Param). Bytes kv.value) kvs
field-octets [] o = tt
field-octets (kv ∷ kvs) o =
    let here : Bytes (kv.value ++ field_of kvs) = o.1.1.1.1 in
    (all_left Octet kv.value (field_of kvs) here, field-octets kvs (all_right Octet kv.value (field_of kvs) here))
