-- The laws of address lists: how the tests of one address come out, the list is its addresses one after another, dropping nothing leaves
-- the list, and what a loop over the list does in one turn. Assumes nothing.
use Rattle.std.specs.Prelude.{◌≡◌, refl, Bool, false, not, List, [], ◌∷◌, ◌++◌, ℕ, zero, suc, ◌*◌, ◌/◌, ◌%◌, ◌≤◌, ◌<◌, ltb, eqb, get_or, take, drop}
use Rattle.std.proofs.Math.Path.{sym, ap}
use Rattle.std.proofs.Common.{◌∙◌, div-mul-le_self, add-one, arith, length-append, take-append-drop, length-take-le, take_at, drop_at}
use Rattle.std.proofs.Math.Bool.{true, cond}
use Rattle.std.specs.Bool.{beq}
use Rattle.std.proofs.lemmas.Bool.{false≢true}
use Rattle.std.proofs.Math.Nat.{div-eq-sub-div, div-eq_of_lt, div-add-mod'}
use Rattle.std.proofs.Math.Dec.{eqb-suc-zero}
use borrow.Author.Tests.{ne_eqb, lt-ltb, le-ltb, not-true, not-false}
use Rattle.std.proofs.Math.ListN.{length, length-drop}
use Rattle.std.specs.Simd.{first_chunks}
use Rattle.octets.specs.Lists.{All, flat}
use Rattle.octets.specs.Numbers.{all_zero}
use Rattle.addresses.specs.Addresses.{Width, unusable, unusable4, unusable16, addresses_of, list_of, kept_of, has_of, any_of, none_of}

pub wide-some : {w : ℕ} → Width w → 0 < w
wide-some h = let e = h.is in omega arith

pub four : Width 4
four = record { long = 0; one = omega arith; is = omega arith }

pub sixteen : Width 16
sixteen = record { long = 1; one = omega arith; is = omega arith }

-- ---- the tests of one address, in their order

module _ (x : ℕ) where
  pub unusable4-loopback : x ≡ 127 → true ≡ unusable4 x
  unfolding unusable4
  unusable4-loopback e = rw e

  pub unusable4-below : (x ≡ 127 → ⊥) → x < 224 → false ≡ unusable4 x
  unfolding unusable4
  unusable4-below n h = rw (ne_eqb x 127 n, lt-ltb x 224 h)

  pub unusable4-above : 224 ≤ x → ltb x 240 ≡ unusable4 x
  unfolding unusable4
  unusable4-above h = rw (ne_eqb x 127 (omega arith), le-ltb x 224 h)

-- a first octet that is not 0 leaves multicast alone
pub unusable16-first : (a : List ℕ) → (get_or a 0 0 ≡ 0 → ⊥) → eqb (get_or a 0 0) 255 ≡ unusable16 a
unfolding unusable16 all_zero
unusable16-first [] n = absurd (n refl)
unusable16-first (x ∷ xs) n = simp (ne_eqb x 0 n) (go (eqb x 255) (eqb (get_or xs 14 0) 1))
  where
    go : (b c : Bool) → b ≡ cond b true (cond c false false)
    go true c = refl
    go false true = refl
    go false false = refl

module _ (a : List ℕ) (z : get_or a 0 0 ≡ 0) where
  pub unusable16-one : {r : Bool} → get_or a 15 0 ≡ 1 → r ≡ all_zero (take 15 a) → r ≡ unusable16 a
  unfolding unusable16
  unusable16-one e q = rw (z, e) q

  pub unusable16-other : (get_or a 15 0 ≡ 1 → ⊥) → false ≡ unusable16 a
  unfolding unusable16
  unusable16-other m = rw (z, ne_eqb (get_or a 15 0) 1 m)

-- ---- one address, and the rest

pub list-cons : (w : ℕ) (s : List ℕ) → 0 < w → w ≤ length s → list_of w s ≡ take w s ∷ list_of w (drop w s)
unfolding list_of
list-cons w s p h =
    let e : length s / w ≡ suc (length (drop w s) / w) = div-eq-sub-div p h ∙ add-one _ ∙ rw length-drop in
    rw e

pub list-nil : (w : ℕ) (s : List ℕ) → length s < w → list_of w s ≡ []
unfolding list_of
list-nil w s h = rw (div-eq_of_lt h)

-- ---- the list is its addresses

module _ (w : ℕ) where
  flat-of : (n : ℕ) (s : List ℕ) → length s ≡ n * w → flat (addresses_of w n s) ≡ s
  flat-of zero [] e = refl
  flat-of zero (x ∷ s) e = absurd (omega arith)
  flat-of (suc n) s e =
      let d : length (drop w s) ≡ n * w = length-drop w s ∙ omega arith in
      ap (λ (l : List ℕ). take w s ++ l) (flat-of n (drop w s) d) ∙ take-append-drop w s

  -- octets that whole addresses fill are these addresses one after another
  pub flat-list : (s : List ℕ) → length s % w ≡ 0 → flat (list_of w s) ≡ s
  unfolding list_of
  flat-list s e = flat-of (length s / w) s (omega (arith, div-add-mod' (length s) w))

  -- the library's chunks are the addresses
  chunks-of : (n : ℕ) (s : List ℕ) → first_chunks w n s ≡ addresses_of w n s
  chunks-of zero s = refl
  chunks-of (suc n) s = ap (λ (l : List (List ℕ)). take w s ∷ l) (chunks-of n (drop w s))

  pub chunks_list : (s : List ℕ) → first_chunks w (length s / w) s ≡ list_of w s
  unfolding list_of
  chunks_list s = chunks-of (length s / w) s

  length-of : (n : ℕ) (s : List ℕ) → length (addresses_of w n s) ≡ n
  length-of zero s = refl
  length-of (suc n) s = ap suc (length-of n (drop w s))

  -- the number of addresses is the quotient
  pub list_length : (s : List ℕ) → length (list_of w s) ≡ length s / w
  unfolding list_of
  list_length s = length-of (length s / w) s

  wide_of : (n : ℕ) (s : List ℕ) → n * w ≤ length s → All (λ (a : List ℕ). length a ≡ w) (addresses_of w n s)
  wide_of zero s h = tt
  wide_of (suc n) s h =
      let d : n * w ≤ length (drop w s) = rw length-drop (omega arith) in
      (length-take-le w s (omega arith), wide_of n (drop w s) d)

  -- each address has w octets
  pub list-wide : (s : List ℕ) → All (λ (a : List ℕ). length a ≡ w) (list_of w s)
  unfolding list_of
  list-wide s = wide_of (length s / w) s (div-mul-le_self (length s) w)

  -- addresses of w octets one after another have w octets each
  pub flat-length : (ls : List (List ℕ)) → All (λ (a : List ℕ). length a ≡ w) ls → length (flat ls) ≡ length ls * w
  flat-length [] h = omega arith
  flat-length (a ∷ more) h = length-append a (flat more) ∙ omega (arith, h.0, flat-length more h.1)

  -- and are read back as they were
  pub list-flat : (ls : List (List ℕ)) → 0 < w → All (λ (a : List ℕ). length a ≡ w) ls → list_of w (flat ls) ≡ ls
  list-flat [] p h = list-nil w [] p
  list-flat (a ∷ more) p h =
      let k : w ≤ length (a ++ flat more) = simp length-append (omega (arith, h.0)) in
      list-cons w (a ++ flat more) p k
      ∙ rw (take_at a (flat more) w h.0, drop_at a (flat more) w h.0) (ap (λ (l : List (List ℕ)). a ∷ l) (list-flat more p h.1))

-- ---- what is kept

-- what holds of each address holds of each that is kept
pub kept-all : (P : List ℕ → Type 0) (w : ℕ) (more : List (List ℕ)) → All P more → All P (kept_of w more)
unfolding kept_of
kept-all P w [] h = tt
kept-all P w (a ∷ more) h = go (unusable w a) (kept-all P w more h.1)
  where
    go : (b : Bool) → All P (kept_of w more) → All P (cond b (kept_of w more) (a ∷ kept_of w more))
    go true ih = ih
    go false ih = (h.0, ih)

-- each that is kept has w octets
pub kept-wide : (w : ℕ) (more : List (List ℕ)) → All (λ (a : List ℕ). length a ≡ w) more → All (λ (a : List ℕ). length a ≡ w) (kept_of w more)
kept-wide w more h = kept-all (λ a. length a ≡ w) w more h

-- what is dropped nowhere is kept whole
pub none_dropped : (w : ℕ) (more : List (List ℕ)) → any_of w more ≡ false → kept_of w more ≡ more
unfolding has_of kept_of
none_dropped w [] e = refl
none_dropped w (a ∷ more) e = go (unusable w a) refl e (none_dropped w more)
  where
    go : (b : Bool) → unusable w a ≡ b → cond (beq b true) true (any_of w more) ≡ false → (any_of w more ≡ false → kept_of w more ≡ more) → cond (unusable w a) (kept_of w more) (a ∷ kept_of w more) ≡ a ∷ more
    go true t e ih = absurd (false≢true (sym e))
    go false t e ih = simp t (ap (λ (l : List (List ℕ)). a ∷ l) (ih e))

pub kept-few : (w : ℕ) (more : List (List ℕ)) → length (kept_of w more) ≤ length more
unfolding kept_of
kept-few w [] = omega arith
kept-few w (a ∷ more) = go (unusable w a) (kept-few w more)
  where
    go : (b : Bool) → length (kept_of w more) ≤ length more → length (cond b (kept_of w more) (a ∷ kept_of w more)) ≤ suc (length more)
    go true ih = omega arith
    go false ih = omega arith

-- where one is to be dropped, fewer are kept
some-dropped : (w : ℕ) (more : List (List ℕ)) → any_of w more ≡ true → length (kept_of w more) < length more
unfolding has_of kept_of
some-dropped w [] e = absurd (false≢true e)
some-dropped w (a ∷ more) e = go (unusable w a) e (some-dropped w more) (kept-few w more)
  where
    go : (b : Bool) → cond (beq b true) true (any_of w more) ≡ true → (any_of w more ≡ true → length (kept_of w more) < length more)
        → length (kept_of w more) ≤ length more → length (cond b (kept_of w more) (a ∷ kept_of w more)) < suc (length more)
    go true e ih few = omega arith
    go false e ih few = let h = ih e in omega arith

-- one is to be dropped exactly where fewer are kept
pub fewer-any : (w : ℕ) (more : List (List ℕ)) → ltb (length (kept_of w more)) (length more) ≡ any_of w more
fewer-any w more = go (any_of w more) refl
  where
    go : (b : Bool) → any_of w more ≡ b → ltb (length (kept_of w more)) (length more) ≡ any_of w more
    go true e = lt-ltb (length (kept_of w more)) (length more) (some-dropped w more e) ∙ sym e
    go false e =
        let same : length (kept_of w more) ≡ length more = ap length (none_dropped w more e) in
        le-ltb (length (kept_of w more)) (length more) (omega arith) ∙ sym e

-- octets that whole addresses fill, none of them to be dropped, are kept whole
pub none-dropped-flat : (w : ℕ) (s : List ℕ) → length s % w ≡ 0 → any_of w (list_of w s) ≡ false → flat (kept_of w (list_of w s)) ≡ s
none-dropped-flat w s e h = ap flat (none_dropped w (list_of w s) h) ∙ flat-list w s e

-- what is kept has nothing to drop
pub kept-usable : (w : ℕ) (more : List (List ℕ)) → any_of w (kept_of w more) ≡ false
unfolding has_of kept_of
kept-usable w [] = refl
kept-usable w (a ∷ more) = go (unusable w a) refl (kept-usable w more)
  where
    go : (b : Bool) → unusable w a ≡ b → any_of w (kept_of w more) ≡ false → any_of w (cond b (kept_of w more) (a ∷ kept_of w more)) ≡ false
    go true t ih = ih
    go false t ih = simp t ih

-- none is kept where none that stays is there
pub none_has : (w : ℕ) (more : List (List ℕ)) → not (has_of w false more) ≡ none_of w more
unfolding has_of kept_of
none_has w [] = refl
none_has w (a ∷ more) = go (unusable w a) (none_has w more)
  where
    go : (b : Bool) → not (has_of w false more) ≡ none_of w more → not (cond (beq b false) true (has_of w false more)) ≡ eqb (length (cond b (kept_of w more) (a ∷ kept_of w more))) 0
    go true ih = ih
    go false ih = sym (eqb-suc-zero (length (kept_of w more)))

-- ---- turns of a loop: an address a, and what more is left of the list

module _ (w : ℕ) (a : List ℕ) (more : List (List ℕ)) {r : Bool} (e : r ≡ unusable w a) where
  pub kept_out : not r ≡ false → kept_of w (a ∷ more) ≡ kept_of w more
  unfolding kept_of
  kept_out t = simp (sym e ∙ not-false _ t)

  pub kept_in : not r ≡ true → kept_of w (a ∷ more) ≡ a ∷ kept_of w more
  unfolding kept_of
  kept_in t = simp (sym e ∙ not-true _ t)

module _ (w : ℕ) (rest a more : List ℕ) (wide : Width w) (size : length a ≡ w) (q : rest ≡ a ++ more) where
  turn : list_of w rest ≡ a ∷ list_of w more
  turn =
      let k : w ≤ length (a ++ more) = simp length-append (omega arith) in
      ap (list_of w) q ∙ list-cons w (a ++ more) (wide-some wide) k ∙ rw (take_at a more w size, drop_at a more w size)

  module _ {r : Bool} (e : r ≡ unusable w a) where
    pub kept-drop : not r ≡ false → kept_of w (list_of w rest) ≡ kept_of w (list_of w more)
    kept-drop t = ap (kept_of w) turn ∙ kept_out w a (list_of w more) e t

    pub kept-keep : not r ≡ true → kept_of w (list_of w rest) ≡ a ∷ kept_of w (list_of w more)
    kept-keep t = ap (kept_of w) turn ∙ kept_in w a (list_of w more) e t

    look_at : (wanted : Bool) → has_of w wanted (list_of w rest) ≡ cond (beq r wanted) true (has_of w wanted (list_of w more))
    unfolding has_of
    look_at wanted = ap (has_of w wanted) turn ∙ ap (λ b. cond (beq b wanted) true (has_of w wanted (list_of w more))) (sym e)

    -- it decides, or what is left does
    pub look-found : (wanted : Bool) → beq r wanted ≡ true → has_of w wanted (list_of w rest) ≡ true
    look-found wanted t = look_at wanted ∙ simp t

    pub look-next : (wanted : Bool) → beq r wanted ≡ false → has_of w wanted (list_of w rest) ≡ has_of w wanted (list_of w more)
    look-next wanted t = look_at wanted ∙ simp t

-- too few octets for an address
module _ (w : ℕ) (rest : List ℕ) (h : length rest < w) where
  pub kept-end : kept_of w (list_of w rest) ≡ []
  unfolding kept_of
  kept-end = rw (list-nil w rest h)

  pub look-end : (wanted : Bool) → has_of w wanted (list_of w rest) ≡ false
  unfolding has_of
  look-end wanted = rw (list-nil w rest h)
