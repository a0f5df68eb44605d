-- What is decoded whole is, its blanks left out, the encoding of its octets, and these are below 256. Assumes nothing.
use Rattle.std.specs.Prelude.{◌≡◌, refl, Bool, false, leb, eqb}
use Rattle.std.proofs.Common.{sym, subst, ◌∙◌, arith, leb-false, eqb-true}
use Rattle.std.proofs.Math.Path.{ap}
use Rattle.std.proofs.Math.Bool.{true, cond}
use Rattle.std.proofs.lemmas.Bool.{false≢true, lt-leb}
use mathlib.Core.List.{List, [], ◌∷◌}
use Prim.Native.Nat.{ℕ, zero, suc, ◌+◌, ◌*◌, ◌/◌, ◌%◌, ◌<◌}
use Rattle.octets.specs.Cases.{by-test}
use Rattle.octets.specs.Numbers.{Bytes}
use Rattle.base64_text.specs.Quantum.{Quantum}
use Rattle.base64_text.specs.Base64.{blank, value, quantum, to, octet_of, padded, filled, moved, whole}
use Rattle.base64_text.specs.Base64.{End, good, fault, Decoded, none, onto, arrive, decode_from}
use Rattle.base64_text.specs.Encoded.{character, encode, unblanked}
use Rattle.base64_text.specs.Back.{blank-moved}
use Rattle.base64_text.specs.EncodedLaws.{value-character, encode_one, encode-two, encode-three}

-- ---- a claim on the octets of what is decoded whole

abbrev on_good : Type 0 → End → Type 0
on_good P good = P
on_good P (fault i) = Unit {0}

abbrev pub When : (List ℕ → Type 0) → Decoded → Type 0
When P d = on_good (P d.octets) d.end

when-any : (d : Decoded) → When (λ bs. Unit {0}) d
when-any d = go d.end
  where
    go : (e : End) → on_good (Unit {0}) e
    go good = tt
    go (fault i) = tt

when-map : {P Q : List ℕ → Type 0} (d : Decoded) → ((bs : List ℕ) → P bs → Q bs) → When P d → When Q d
when-map {P} {Q} d f = go d.end
  where
    go : (e : End) → on_good (P d.octets) e → on_good (Q d.octets) e
    go good w = f d.octets w
    go (fault i) w = tt

-- ---- what is left of a text, by the place and the last value

-- with the characters of the quantum before it, whatever their values were, it is the encoding of the octets with those of the quantum before them
abbrev pub Left : ℕ → ℕ → List ℕ → List ℕ → Type 0
Left zero l bs t = t ≡ encode bs
Left (suc zero) l bs t = character l ∷ t ≡ encode bs
Left (suc (suc zero)) l bs t = (j : ℕ) → j < 64 → character j ∷ character l ∷ t ≡ encode ((j % 64 * 4 + l / 16) ∷ bs)
Left (suc (suc (suc zero))) l bs t =
    (j k : ℕ) → j < 64 → k < 64 → character j ∷ character k ∷ character l ∷ t ≡ encode ((j % 64 * 4 + k / 16) ∷ (k % 16 * 16 + l / 4) ∷ bs)
Left (suc (suc (suc (suc zero)))) l bs t = (bs ≡ []) × (t ≡ 61 ∷ [])
Left (suc (suc (suc (suc (suc zero))))) l bs t = (bs ≡ []) × (t ≡ [])
Left (suc (suc (suc (suc (suc (suc p)))))) l bs t = Unit {0}

-- the fourth character of a quantum
left-fourth : (l v : ℕ) (bs t : List ℕ) → l < 64 → v < 64 → t ≡ encode bs → Left 3 l ((l % 4 * 64 + v) ∷ bs) (character v ∷ t)
left-fourth l v bs t h g e j k m n =
    let a : ℕ = j % 64 * 4 + k / 16 in
    let b : ℕ = k % 16 * 16 + l / 4 in
    let c : ℕ = l % 4 * 64 + v in
    let p : a / 4 ≡ j = omega arith in
    let q : a % 4 * 16 + b / 16 ≡ k = omega arith in
    let r : b % 16 * 4 + c / 64 ≡ l = omega arith in
    let s : c % 64 ≡ v = omega arith in
    sym (encode-three a b c bs (omega arith) (omega arith) (omega arith)
    ∙ rw (p, q, r, s) (ap (λ (u : List ℕ). character j ∷ character k ∷ character l ∷ character v ∷ u) (sym e)))

-- the padding
left-two : (l : ℕ) (bs t : List ℕ) → l < 64 → l % 16 ≡ 0 → Left 4 l bs t → Left 2 l bs (61 ∷ t)
left-two l bs t h z e j m =
    let a : ℕ = j % 64 * 4 + l / 16 in
    let p : a / 4 ≡ j = omega arith in
    let q : a % 4 * 16 ≡ l = omega arith in
    rw (e.0, e.1) (sym (encode_one a (omega arith) ∙ rw (p, q)))

left_one : (l : ℕ) (bs t : List ℕ) → l < 64 → l % 4 ≡ 0 → Left 5 l bs t → Left 3 l bs (61 ∷ t)
left_one l bs t h z e j k m n =
    let a : ℕ = j % 64 * 4 + k / 16 in
    let b : ℕ = k % 16 * 16 + l / 4 in
    let p : a / 4 ≡ j = omega arith in
    let q : a % 4 * 16 + b / 16 ≡ k = omega arith in
    let r : b % 16 * 4 ≡ l = omega arith in
    rw (e.0, e.1) (sym (encode-two a b (omega arith) (omega arith) ∙ rw (p, q, r)))

-- ---- a character

filled-letter : (v : ℕ) (s : Quantum) → v < 64
    → filled v s ≡ cond (leb 4 s.place) (to 6 s) (quantum ((s.place + 1) % 4) v (octet_of s.place s.last v) (leb 1 s.place))
unfolding filled
filled-letter v s h = rw (lt-leb 64 v h)

-- u is left of the text, and D is what it is decoded as
module _ (l o : ℕ) (c : Bool) (i : ℕ) (u : List ℕ) (D : Quantum → Decoded) (h : l < 64)
    (f : (m : Quantum) → m.last < 64 → When (λ bs. Left m.place m.last bs u) (D m)) where
  at_blank : (p : ℕ) → When (λ bs. Left p l bs u) (arrive (quantum p l o false) i (D (quantum p l o false)))
  at_blank p =
      by-test (eqb p 6) (λ b. When (λ bs. Left p l bs u) (cond b (none (fault i)) (D (quantum p l o false)))) (λ e. tt) (λ e. f (quantum p l o false) h)

  past : (p : ℕ) (m : Quantum) (t : List ℕ) → When (λ bs. Left (suc (suc (suc (suc (suc (suc p)))))) l bs t) (arrive m i (D m))
  past p m t = when-any (arrive m i (D m))

  at-padding : (p : ℕ) → When (λ bs. Left p l bs (61 ∷ u)) (arrive (padded (quantum p l o c)) i (D (padded (quantum p l o c))))
  unfolding padded
  at-padding zero = tt
  at-padding (suc zero) = tt
  at-padding (suc (suc zero)) =
      by-test (eqb (l % 16) 0)
      (λ b. let m : Quantum = cond b (quantum 4 l o false) (quantum 6 l o false) in When (λ bs. Left 2 l bs (61 ∷ u)) (arrive m i (D m)))
      (λ e. when-map (D (quantum 4 l o false)) (λ bs w. left-two l bs u h (eqb-true (l % 16) 0 e) w) (f (quantum 4 l o false) h))
      (λ e. tt)
  at-padding (suc (suc (suc zero))) =
      by-test (eqb (l % 4) 0)
      (λ b. let m : Quantum = cond b (quantum 5 l o false) (quantum 6 l o false) in When (λ bs. Left 3 l bs (61 ∷ u)) (arrive m i (D m)))
      (λ e. when-map (D (quantum 5 l o false)) (λ bs w. left_one l bs u h (eqb-true (l % 4) 0 e) w) (f (quantum 5 l o false) h))
      (λ e. tt)
  at-padding (suc (suc (suc (suc zero)))) =
      when-map {P = λ bs. Left 5 l bs u} {Q = λ bs. Left 4 l bs (61 ∷ u)} (D (quantum 5 l o false)) (λ bs w. (w.0, ap (λ (t : List ℕ). 61 ∷ t) w.1))
      (f (quantum 5 l o false) h)
  at-padding (suc (suc (suc (suc (suc zero))))) = tt
  at-padding (suc (suc (suc (suc (suc (suc p)))))) = past p (padded (quantum (suc (suc (suc (suc (suc (suc p)))))) l o c)) (61 ∷ u)

  at-letter : (p v : ℕ) → v < 64 → When (λ bs. Left p l bs (character v ∷ u)) (arrive (filled v (quantum p l o c)) i (D (filled v (quantum p l o c))))
  unfolding octet_of
  at-letter zero v g = rw (filled-letter v (quantum 0 l o c) g) (f (quantum 1 v (octet_of 0 l v) false) g)
  at-letter (suc zero) v g =
      let m : Quantum = quantum 2 v (octet_of 1 l v) true in
      rw (filled-letter v (quantum 1 l o c) g)
      (when-map {P = λ bs. Left 2 v bs u} {Q = λ bs. Left 1 l ((l % 64 * 4 + v / 16) ∷ bs) (character v ∷ u)} (D m) (λ bs w. w l h) (f m g))
  at-letter (suc (suc zero)) v g =
      let m : Quantum = quantum 3 v (octet_of 2 l v) true in
      rw (filled-letter v (quantum 2 l o c) g)
      (when-map {P = λ bs. Left 3 v bs u} {Q = λ bs. Left 2 l ((l % 16 * 16 + v / 4) ∷ bs) (character v ∷ u)} (D m) (λ bs w j k. w j l k h) (f m g))
  at-letter (suc (suc (suc zero))) v g =
      let m : Quantum = quantum 0 v (octet_of 3 l v) true in
      rw (filled-letter v (quantum 3 l o c) g)
      (when-map {P = λ bs. Left 0 v bs u} {Q = λ bs. Left 3 l ((l % 4 * 64 + v) ∷ bs) (character v ∷ u)} (D m) (λ bs w. left-fourth l v bs u h g w) (f m g))
  at-letter (suc (suc (suc (suc zero)))) v g = rw (filled-letter v (quantum 4 l o c) g) tt
  at-letter (suc (suc (suc (suc (suc zero))))) v g = rw (filled-letter v (quantum 5 l o c) g) tt
  at-letter (suc (suc (suc (suc (suc (suc p)))))) v g = past p (filled v (quantum (suc (suc (suc (suc (suc (suc p)))))) l o c)) (character v ∷ u)

padding-moved : (s : Quantum) (x : ℕ) → blank x ≡ false → eqb x 61 ≡ true → moved x s ≡ padded s
unfolding moved
padding-moved s x b p = rw (b, p)

letter-moved : (s : Quantum) (x : ℕ) → blank x ≡ false → eqb x 61 ≡ false → moved x s ≡ filled (value x) s
unfolding moved
letter-moved s x b p = rw (b, p)

other-filled : (s : Quantum) (v : ℕ) → leb 64 v ≡ true → filled v s ≡ to 6 s
unfolding filled
other-filled s v e = rw e

-- ---- a text

at_end : (p l o : ℕ) (c : Bool) (i : ℕ) → When (λ bs. Left p l bs []) (decode_from (quantum p l o c) i [])
unfolding decode_from encode
at_end zero l o c i = refl
at_end (suc zero) l o c i = tt
at_end (suc (suc zero)) l o c i = tt
at_end (suc (suc (suc zero))) l o c i = tt
at_end (suc (suc (suc (suc zero)))) l o c i = tt
at_end (suc (suc (suc (suc (suc zero))))) l o c i = (refl, refl)
at_end (suc (suc (suc (suc (suc (suc p)))))) l o c i = when-any (decode_from (quantum (suc (suc (suc (suc (suc (suc p)))))) l o c) i [])

pub left-says : (s : Quantum) (i : ℕ) (t : List ℕ) → s.last < 64 → When (λ bs. Left s.place s.last bs (unblanked t)) (decode_from s i t)
unfolding decode_from unblanked
left-says s i [] h = at_end s.place s.last s.octet s.complete i
left-says s i (x ∷ t) h = go (blank x) refl (eqb x 61) refl (leb 64 (value x)) refl (λ m k. left-says m (i + 1) t k)
  where
    go : (a : Bool) → blank x ≡ a → (b : Bool) → eqb x 61 ≡ b → (d : Bool) → leb 64 (value x) ≡ d
        → ((m : Quantum) → m.last < 64 → When (λ bs. Left m.place m.last bs (unblanked t)) (decode_from m (i + 1) t))
        → When (λ bs. Left s.place s.last bs (cond a (unblanked t) (x ∷ unblanked t))) (arrive (moved x s) i (decode_from (moved x s) (i + 1) t))
    go true p b q d r f =
        rw (blank-moved s x p) (at_blank s.last s.octet s.complete i (unblanked t) (λ m. decode_from m (i + 1) t) h f s.place)
    go false p true q d r f =
        rw (padding-moved s x p q, eqb-true x 61 q) (at-padding s.last s.octet s.complete i (unblanked t) (λ m. decode_from m (i + 1) t) h f s.place)
    go false p false q true r f = rw (letter-moved s x p q, other-filled s (value x) r) tt
    go false p false q false r f =
        let k : value x < 64 = leb-false 64 (value x) r in
        rw (letter-moved s x p q)
        (subst
        (λ (y : ℕ). When (λ bs. Left s.place s.last bs (y ∷ unblanked t)) (arrive (filled (value x) s) i (decode_from (filled (value x) s) (i + 1) t)))
        (value-character x k)
        (at-letter s.last s.octet s.complete i (unblanked t) (λ m. decode_from m (i + 1) t) h f s.place (value x) k))

-- ---- octets

octet-small : (p l v : ℕ) → v < 64 → octet_of p l v < 256
unfolding octet_of
octet-small p l v h =
    by-test (eqb p 1) (λ b. cond b (l % 64 * 4 + v / 16) (cond (eqb p 2) (l % 16 * 16 + v / 4) (l % 4 * 64 + v)) < 256) (λ e. omega arith)
    (λ e. by-test (eqb p 2) (λ b. cond b (l % 16 * 16 + v / 4) (l % 4 * 64 + v) < 256) (λ e. omega arith) (λ e. omega arith))

-- an octet that is complete is below 256
abbrev Small : Quantum → Type 0
Small s = s.complete ≡ true → s.octet < 256

padded-none : (s : Quantum) → (padded s).complete ≡ false
unfolding padded
padded-none s = go (eqb s.place 2) (eqb (s.last % 16) 0) (eqb s.place 3) (eqb (s.last % 4) 0) (eqb s.place 4)
  where
    go : (a b c d e : Bool) → (cond a (cond b (to 4 s) (to 6 s)) (cond c (cond d (to 5 s) (to 6 s)) (cond e (to 5 s) (to 6 s)))).complete ≡ false
    go true true c d e = refl
    go true false c d e = refl
    go false b true true e = refl
    go false b true false e = refl
    go false b false d true = refl
    go false b false d false = refl

filled-small : (v : ℕ) (s : Quantum) → Small (filled v s)
unfolding filled
filled-small v s = go (leb 64 v) refl (leb 4 s.place)
  where
    go : (a : Bool) → leb 64 v ≡ a → (b : Bool)
        → Small (cond a (to 6 s) (cond b (to 6 s) (quantum ((s.place + 1) % 4) v (octet_of s.place s.last v) (leb 1 s.place))))
    go true p b e = absurd (false≢true e)
    go false p true e = absurd (false≢true e)
    go false p false e = octet-small s.place s.last v (leb-false 64 v p)

moved-small : (x : ℕ) (s : Quantum) → Small (moved x s)
unfolding moved
moved-small x s = go (blank x) (eqb x 61)
  where
    go : (a b : Bool) → Small (cond a (to s.place s) (cond b (padded s) (filled (value x) s)))
    go true b e = absurd (false≢true e)
    go false true e = absurd (false≢true (sym (padded-none s) ∙ e))
    go false false e = filled-small (value x) s e

pub octets-small : (s : Quantum) (i : ℕ) (t : List ℕ) → Bytes (decode_from s i t).octets
unfolding decode_from
octets-small s i [] = go (whole s)
  where
    go : (b : Bool) → Bytes (cond b (none good) (none (fault i))).octets
    go true = tt
    go false = tt
octets-small s i (x ∷ t) = go (moved x s) (moved-small x s) (octets-small (moved x s) (i + 1) t)
  where
    go : (m : Quantum) → Small m → Bytes (decode_from m (i + 1) t).octets → Bytes (arrive m i (decode_from m (i + 1) t)).octets
    go m f h = test (eqb m.place 6) m.complete refl
      where
        test : (a b : Bool) → m.complete ≡ b
            → Bytes (cond a (none (fault i)) (cond b (onto m.octet (decode_from m (i + 1) t)) (decode_from m (i + 1) t))).octets
        test true b e = tt
        test false true e = (f e, h)
        test false false e = h
