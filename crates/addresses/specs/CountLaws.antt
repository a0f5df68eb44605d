-- The laws of the count of the kept addresses: an IPv6 address whose first octet is plain is kept, the count of a list is that of its
-- first addresses and of the rest, and what a loop that counts does in one turn. Assumes nothing.
use Rattle.std.specs.Prelude.{◌≡◌, Bool, ◌&&◌, ℕ, zero, suc, ◌+◌, ◌*◌, ◌≤◌, ◌<◌, length, get_or, take, drop}
use Rattle.std.proofs.Math.Path.{refl, ap}
use Rattle.std.proofs.Common.{sym, ◌∙◌, add-zero, arith, ne_eqb, length-append, length-drop, take-append-drop, length-take-le, drop-drop, get_or-take, get_or-drop}
use Rattle.std.proofs.Math.Bool.{true, false, cond, not, and-eq-true_iff}
use Rattle.std.proofs.lemmas.Bool.{false≢true, eqb-false}
use mathlib.Core.List.{List, [], ◌∷◌, ◌++◌}
use Rattle.std.proofs.Math.Dec.{eqb}
use Rattle.std.proofs.lemmas.List.{take-append-le, drop-append-le}
use Rattle.addresses.specs.Addresses.{unusable, plain16, list_of, kept_of}
use Rattle.addresses.specs.AddressesLaws.{sixteen, unusable16-first, list-cons, list-nil, kept-keep, kept-end}

-- ---- the first octet of an IPv6 address

module _ (x : ℕ) where
  pub plain16-zero : x ≡ 0 → not (eqb x 0) ≡ plain16 x
  unfolding plain16
  plain16-zero e = rw e

  pub plain16-other : (x ≡ 0 → ⊥) → not (eqb x 255) ≡ plain16 x
  unfolding plain16
  plain16-other n = simp (ne_eqb x 0 n) (go (eqb x 255))
    where
      go : (b : Bool) → not b ≡ cond b false true
      go true = refl
      go false = refl

  -- a plain octet begins neither ::1 nor ff00::/8
  plain16-neither : plain16 x ≡ true → (x ≡ 0 → ⊥) × (eqb x 255 ≡ false)
  unfolding plain16
  plain16-neither = go (eqb x 0) refl (eqb x 255) refl
    where
      go : (a : Bool) → eqb x 0 ≡ a → (b : Bool) → eqb x 255 ≡ b → cond a false (cond b false true) ≡ true → (x ≡ 0 → ⊥) × (eqb x 255 ≡ false)
      go true s b t e = absurd (false≢true e)
      go false s true t e = absurd (false≢true e)
      go false s false t e = (eqb-false x 0 s, t)

-- an address with a plain first octet is not dropped
plain16-usable : (a : List ℕ) → plain16 (get_or a 0 0) ≡ true → unusable 16 a ≡ false
unfolding unusable
plain16-usable a p =
    let n = plain16-neither (get_or a 0 0) p in
    sym (unusable16-first a n.0) ∙ n.1

-- ---- two lists one after another

module _ (w : ℕ) where
  -- octets that whole addresses fill, and then the rest
  list-append : 0 < w → (n : ℕ) (s t : List ℕ) → length s ≡ n * w → list_of w (s ++ t) ≡ list_of w s ++ list_of w t
  list-append p zero [] t e = sym (ap (λ (l : List (List ℕ)). l ++ list_of w t) (list-nil w [] p))
  list-append p zero (x ∷ s) t e = absurd (omega arith)
  list-append p (suc n) s t e =
      let h : w ≤ length s = omega arith in
      let k : w ≤ length (s ++ t) = rw length-append (omega arith) in
      let d : length (drop w s) ≡ n * w = length-drop w s ∙ omega arith in
      list-cons w (s ++ t) p k
      ∙ rw (take-append-le w s t h, drop-append-le w s t h, list-append p n (drop w s) t d, list-cons w s p h)

  kept_append : (ls ms : List (List ℕ)) → kept_of w (ls ++ ms) ≡ kept_of w ls ++ kept_of w ms
  unfolding kept_of
  kept_append [] ms = refl
  kept_append (a ∷ ls) ms = go (unusable w a) (kept_append ls ms)
    where
      go : (b : Bool) → kept_of w (ls ++ ms) ≡ kept_of w ls ++ kept_of w ms
          → cond b (kept_of w (ls ++ ms)) (a ∷ kept_of w (ls ++ ms)) ≡ cond b (kept_of w ls) (a ∷ kept_of w ls) ++ kept_of w ms
      go true ih = ih
      go false ih = ap (λ (l : List (List ℕ)). a ∷ l) ih

  -- the count of n addresses and of the rest is the whole count
  pub count_cut : 0 < w → (n : ℕ) (front back : List ℕ) → length front ≡ n * w
      → length (kept_of w (list_of w (front ++ back))) ≡ length (kept_of w (list_of w front)) + length (kept_of w (list_of w back))
  count_cut p n front back e =
      ap (λ (l : List (List ℕ)). length (kept_of w l)) (list-append p n front back e)
      ∙ ap length (kept_append (list_of w front) (list_of w back))
      ∙ length-append (kept_of w (list_of w front)) (kept_of w (list_of w back))

-- ---- IPv6 addresses that begin plainly

-- one such address
count-plain : (s : List ℕ) (at next : ℕ) → next ≡ at + 16 → next ≤ length s → plain16 (get_or s at 0) ≡ true
    → length (kept_of 16 (list_of 16 (drop at s))) ≡ suc (length (kept_of 16 (list_of 16 (drop next s))))
count-plain s at next e h p =
    let address = take 16 (drop at s) in
    let size : length address ≡ 16 = length-take-le 16 (drop at s) (rw length-drop (omega arith)) in
    let first : get_or address 0 0 ≡ get_or s at 0 = rw (get_or-take 16 (drop at s) 0 0 (omega arith), get_or-drop, add-zero) in
    let kept = kept-keep 16 (drop at s) address (drop 16 (drop at s)) sixteen size (sym (take-append-drop 16 (drop at s))) (sym (plain16-usable address (rw first p))) refl in
    rw e (rw (drop-drop 16 at s) at (ap length kept))

-- four such addresses, by tests that are joined
pub count-four : (s : List ℕ) {a b c d : Bool} → length s ≡ 64
    → a ≡ plain16 (get_or s 0 0) → b ≡ plain16 (get_or s 16 0) → c ≡ plain16 (get_or s 32 0) → d ≡ plain16 (get_or s 48 0)
    → a && b && c && d ≡ true → length (kept_of 16 (list_of 16 s)) ≡ 4
count-four s {a} {b} {c} {d} h p q r t e =
    let last = (and-eq-true_iff (a && b && c) d).0 e in
    let third = (and-eq-true_iff (a && b) c).0 last.0 in
    let first = (and-eq-true_iff a b).0 third.0 in
    omega (
      arith,
      count-plain s 0 16 refl (omega arith) (sym p ∙ first.0),
      count-plain s 16 32 refl (omega arith) (sym q ∙ first.1),
      count-plain s 32 48 refl (omega arith) (sym r ∙ third.1),
      count-plain s 48 64 refl (omega arith) (sym t ∙ last.1),
      ap length (kept-end 16 (drop 64 s) (rw length-drop (omega arith))),
    )

-- ---- turns of a loop that counts

-- the count so far, with those kept of the addresses that are left, is the whole count
pub record Counting (w : ℕ) (s : List ℕ) (n : ℕ) (rest : List ℕ) : Type 0 where
  pub few : n + length rest ≤ length s
  pub whole : n + length (kept_of w (list_of w rest)) ≡ length (kept_of w (list_of w s))

-- k addresses, counted by themselves
pub count-part : {w : ℕ} {s rest : List ℕ} (a more : List ℕ) {n : ℕ} → Counting w s n rest → 0 < w → (k : ℕ) → rest ≡ a ++ more → length a ≡ k * w → {r : ℕ}
    → r ≡ length (kept_of w (list_of w a)) → r ≤ length a → Counting w s (n + r) more
count-part {w} {s} {rest} a more {n} c p k q size {r} e f =
    let parts = ap (λ (l : List ℕ). length (kept_of w (list_of w l))) q ∙ count_cut w p k a more size in
    record { few = omega (arith, c.few, simp length-append at (ap length q)); whole = omega (arith, c.whole, parts) }
