-- The tests of the definition are the networks: an address is dropped exactly when it is in one of them. Assumes nothing.
use Rattle.std.specs.Prelude.{◌≡◌, ◌↔◌, Bool, List, [], ◌∷◌, ◌++◌, ℕ, length, get_or, take, drop}
use Rattle.std.proofs.Math.Path.{refl}
use Rattle.std.proofs.Common.{sym, ap, ◌∙◌, arith, take-append-drop, drop_of_length-le, length-take-le, drop-cons}
use Rattle.std.proofs.Math.Bool.{true, false, cond}
use Rattle.std.proofs.lemmas.Bool.{false≢true}
use Rattle.std.proofs.Math.Dec.{ltb, eqb}
use borrow.Author.Tests.{eqb-true, eqb-false, ne_eqb, ltb-true, ltb-false, lt-ltb, le-ltb}
use Rattle.octets.specs.Numbers.{zeros, all_zero}
use Rattle.octets.specs.NumbersLaws.{zero-zeros}
use Rattle.addresses.specs.Addresses.{Width, unusable, unusable4, unusable16}
use Rattle.addresses.specs.Ranges.{Unusable, loopback4, multicast4, loopback16, multicast16}

-- 15 zeros and a one are the address ::1
one_of : (a : List ℕ) → length a ≡ 16 → get_or a 15 0 ≡ 1 → all_zero (take 15 a) ≡ true → a ≡ zeros 15 ++ (1 ∷ [])
one_of a e x z =
    let front : take 15 a ≡ zeros 15 = zero-zeros (take 15 a) z ∙ ap zeros (length-take-le 15 a (omega arith)) in
    let end : drop 16 a ≡ [] = drop_of_length-le a {i = 16} (omega arith) in
    let back : drop 15 a ≡ 1 ∷ [] = drop-cons a 15 0 (omega arith) ∙ rw (x, end) in
    sym (take-append-drop 15 a) ∙ rw (front, back)

module _ (w : ℕ) (a : List ℕ) where
  -- the tests, and the network that each finds
  in4 : w ≡ 4 → unusable4 (get_or a 0 0) ≡ true → Unusable w a
  unfolding unusable4
  in4 e = loopback (eqb (get_or a 0 0) 127) refl
    where
      multicast : (b : Bool) → ltb (get_or a 0 0) 224 ≡ b → cond b false (ltb (get_or a 0 0) 240) ≡ true → Unusable w a
      multicast true t h = absurd (false≢true h)
      multicast false t h = multicast4 e (ltb-false _ _ t) (omega (arith, ltb-true (get_or a 0 0) 240 h))

      loopback : (b : Bool) → eqb (get_or a 0 0) 127 ≡ b → cond b true (cond (ltb (get_or a 0 0) 224) false (ltb (get_or a 0 0) 240)) ≡ true → Unusable w a
      loopback true t h = loopback4 e (eqb-true _ _ t)
      loopback false t h = multicast (ltb (get_or a 0 0) 224) refl h

  in16 : w ≡ 16 → length a ≡ 16 → unusable16 a ≡ true → Unusable w a
  unfolding unusable16
  in16 e l = multicast (eqb (get_or a 0 0) 255) refl
    where
      loopback : (b : Bool) → eqb (get_or a 15 0) 1 ≡ b → cond b (all_zero (take 15 a)) false ≡ true → Unusable w a
      loopback true t h = loopback16 e (one_of a l (eqb-true _ _ t) h)
      loopback false t h = absurd (false≢true h)

      multicast : (b : Bool) → eqb (get_or a 0 0) 255 ≡ b → cond b true (cond (eqb (get_or a 15 0) 1) (all_zero (take 15 a)) false) ≡ true → Unusable w a
      multicast true t h = multicast16 e (eqb-true _ _ t)
      multicast false t h = loopback (eqb (get_or a 15 0) 1) refl h

  -- a dropped address is in a network, and only such an address is dropped
  within : length a ≡ w → Width w → unusable w a ≡ true → Unusable w a
  unfolding unusable
  within l h = go (eqb w 4) refl
    where
      go : (b : Bool) → eqb w 4 ≡ b → cond b (unusable4 (get_or a 0 0)) (unusable16 a) ≡ true → Unusable w a
      go true t u = in4 (eqb-true _ _ t) u
      go false t u =
          let n : w ≡ 4 → ⊥ = eqb-false _ _ t in
          let e : w ≡ 16 = omega (arith, h.is, h.one) in
          in16 e (l ∙ e) u

  only : Unusable w a → unusable w a ≡ true
  unfolding unusable unusable4 unusable16 all_zero
  only (loopback4 e x) = rw (e, x)
  only (multicast4 e x y) = rw (e, ne_eqb (get_or a 0 0) 127 (omega arith), le-ltb (get_or a 0 0) 224 x, lt-ltb (get_or a 0 0) 240 (omega arith))
  only (loopback16 e x) = rw (e, x)
  only (multicast16 e x) = rw (e, x)

-- an address is dropped when read exactly when it is in one of the networks
pub unusable-exactly : {w : ℕ} {a : List ℕ} → length a ≡ w → Width w → (unusable w a ≡ true) ↔ Unusable w a
unusable-exactly {w} {a} l h = (within w a l h, only w a)
