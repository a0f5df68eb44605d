-- An encoding is decoded as the octets that it is of, and blanks change nothing of that. Assumes nothing.
use Rattle.std.specs.Prelude.{◌≡◌, refl, Bool, true, false, cond, List, [], ◌∷◌, ℕ, zero, suc, ◌+◌, ◌*◌, ◌/◌, ◌%◌, ◌<◌, eqb}
use Rattle.std.proofs.Common.{ap, ap₂, ◌∙◌, arith}
use borrow.Author.Tests.{lt-leb, eq-eqb, ne_eqb, eqb-false}
use Rattle.octets.specs.Lists.{All}
use Rattle.octets.specs.ListsLaws.{all_append}
use Rattle.octets.specs.Numbers.{Bytes}
use Rattle.base64_text.specs.Quantum.{Quantum}
use Rattle.base64_text.specs.Base64.{blank, quantum, to, octet_of, padded, filled, moved, whole}
use Rattle.base64_text.specs.Base64.{End, good, fault, Decoded, none, decoded, onto, arrive, decode_from}
use Rattle.base64_text.specs.Encoded.{character, characters, encode, unblanked}
use Rattle.base64_text.specs.EncodedLaws.{character-value, character-blank, character-padding, encode_one, encode-two, encode-three}
use Rattle.base64_text.specs.EncodedLaws.{first_back, first_alone, second_back, second-alone, third_back}

-- ---- characters, one after another

moved-character : (v : ℕ) (s : Quantum) → v < 64 → moved (character v) s ≡ filled v s
unfolding moved
moved-character v s h = rw (character-blank v h, character-padding v h, character-value v h)

module _ (l o : ℕ) (c : Bool) (i v : ℕ) (t : List ℕ) (h : v < 64) where
  first : decode_from (quantum 0 l o c) i (character v ∷ t) ≡ decode_from (quantum 1 v (octet_of 0 l v) false) (i + 1) t
  unfolding decode_from filled
  first = rw (moved-character v (quantum 0 l o c) h, lt-leb 64 v h)

  second : decode_from (quantum 1 l o c) i (character v ∷ t)
      ≡ onto (l % 64 * 4 + v / 16) (decode_from (quantum 2 v (l % 64 * 4 + v / 16) true) (i + 1) t)
  unfolding decode_from filled octet_of
  second = rw (moved-character v (quantum 1 l o c) h, lt-leb 64 v h)

  third : decode_from (quantum 2 l o c) i (character v ∷ t)
      ≡ onto (l % 16 * 16 + v / 4) (decode_from (quantum 3 v (l % 16 * 16 + v / 4) true) (i + 1) t)
  unfolding decode_from filled octet_of
  third = rw (moved-character v (quantum 2 l o c) h, lt-leb 64 v h)

  fourth : decode_from (quantum 3 l o c) i (character v ∷ t)
      ≡ onto (l % 4 * 64 + v) (decode_from (quantum 0 v (l % 4 * 64 + v) true) (i + 1) t)
  unfolding decode_from filled octet_of
  fourth = rw (moved-character v (quantum 3 l o c) h, lt-leb 64 v h)

module _ (l o : ℕ) (c : Bool) (i : ℕ) where
  padded-two : l % 16 ≡ 0 → decode_from (quantum 2 l o c) i (61 ∷ 61 ∷ []) ≡ none good
  unfolding decode_from moved padded
  padded-two e = rw (eq-eqb (l % 16) 0 e)

  padded-one : l % 4 ≡ 0 → decode_from (quantum 3 l o c) i (61 ∷ []) ≡ none good
  unfolding decode_from moved padded
  padded-one e = rw (eq-eqb (l % 4) 0 e)

-- ---- an encoding

pub encoded-back : (l o : ℕ) (c : Bool) (i : ℕ) (bs : List ℕ) → Bytes bs → decode_from (quantum 0 l o c) i (encode bs) ≡ decoded bs
unfolding decode_from encode
encoded-back l o c i [] h = refl
encoded-back l o c i (a ∷ []) h =
    let j : a / 4 < 64 = omega (arith, h.0) in
    let k : a % 4 * 16 < 64 = omega arith in
    let z : a % 4 * 16 % 16 ≡ 0 = omega arith in
    ap (decode_from (quantum 0 l o c) i) (encode_one a h.0)
    ∙ first l o c i (a / 4) (character (a % 4 * 16) ∷ 61 ∷ 61 ∷ []) j
    ∙ second (a / 4) _ false (i + 1) (a % 4 * 16) (61 ∷ 61 ∷ []) k
    ∙ ap (onto (a / 4 % 64 * 4 + a % 4 * 16 / 16)) (padded-two (a % 4 * 16) _ true (i + 1 + 1) z)
    ∙ ap (λ (x : ℕ). decoded (x ∷ [])) (first_alone a h.0)
encoded-back l o c i (a ∷ b ∷ []) h =
    let j : a / 4 < 64 = omega (arith, h.0) in
    let k : a % 4 * 16 + b / 16 < 64 = omega (arith, h.1.0) in
    let m : b % 16 * 4 < 64 = omega arith in
    let z : b % 16 * 4 % 4 ≡ 0 = omega arith in
    ap (decode_from (quantum 0 l o c) i) (encode-two a b h.0 h.1.0)
    ∙ first l o c i (a / 4) (character (a % 4 * 16 + b / 16) ∷ character (b % 16 * 4) ∷ 61 ∷ []) j
    ∙ second (a / 4) _ false (i + 1) (a % 4 * 16 + b / 16) (character (b % 16 * 4) ∷ 61 ∷ []) k
    ∙ ap (onto (a / 4 % 64 * 4 + (a % 4 * 16 + b / 16) / 16))
    (third (a % 4 * 16 + b / 16) _ true (i + 1 + 1) (b % 16 * 4) (61 ∷ []) m
    ∙ ap (onto ((a % 4 * 16 + b / 16) % 16 * 16 + b % 16 * 4 / 4)) (padded-one (b % 16 * 4) _ true (i + 1 + 1 + 1) z))
    ∙ ap₂ (λ (x y : ℕ). decoded (x ∷ y ∷ [])) (first_back a b h.0 h.1.0) (second-alone a b h.1.0)
encoded-back l o c i (a ∷ b ∷ d ∷ bs) h =
    let j : a / 4 < 64 = omega (arith, h.0) in
    let k : a % 4 * 16 + b / 16 < 64 = omega (arith, h.1.0) in
    let m : b % 16 * 4 + d / 64 < 64 = omega (arith, h.1.1.0) in
    let n : d % 64 < 64 = omega arith in
    ap (decode_from (quantum 0 l o c) i) (encode-three a b d bs h.0 h.1.0 h.1.1.0)
    ∙ first l o c i (a / 4) (character (a % 4 * 16 + b / 16) ∷ character (b % 16 * 4 + d / 64) ∷ character (d % 64) ∷ encode bs) j
    ∙ second (a / 4) _ false (i + 1) (a % 4 * 16 + b / 16) (character (b % 16 * 4 + d / 64) ∷ character (d % 64) ∷ encode bs) k
    ∙ ap₂ onto (first_back a b h.0 h.1.0)
    (third (a % 4 * 16 + b / 16) _ true (i + 1 + 1) (b % 16 * 4 + d / 64) (character (d % 64) ∷ encode bs) m
    ∙ ap₂ onto (second_back a b d h.1.0 h.1.1.0)
    (fourth (b % 16 * 4 + d / 64) _ true (i + 1 + 1 + 1) (d % 64) (encode bs) n
    ∙ ap₂ onto (third_back b d h.1.1.0) (encoded-back (d % 64) _ true (i + 1 + 1 + 1 + 1) bs h.1.1.1)))

-- ---- blanks

abbrev pub is_good : End → Bool
is_good good = true
is_good (fault i) = false

-- the same octets, and both good or neither
pub record Alike (d e : Decoded) : Type 0 where
  pub octets : d.octets ≡ e.octets
  pub end : is_good d.end ≡ is_good e.end

-- a character is taken alike, whether or not the one before completed an octet
to-moved : (x : ℕ) (s : Quantum) → moved x (to s.place s) ≡ moved x s
unfolding moved padded filled
to-moved x s = refl

to-decode : (s : Quantum) (i : ℕ) (t : List ℕ) → decode_from (to s.place s) i t ≡ decode_from s i t
unfolding decode_from
to-decode s i [] = refl
to-decode s i (x ∷ t) = ap (λ (m : Quantum). arrive m i (decode_from m (i + 1) t)) (to-moved x s)

pub blank-moved : (s : Quantum) (x : ℕ) → blank x ≡ true → moved x s ≡ to s.place s
unfolding moved
blank-moved s x b = rw b

blank-on : (s : Quantum) (i x : ℕ) (t : List ℕ) → (s.place ≡ 6 → ⊥) → blank x ≡ true → decode_from s i (x ∷ t) ≡ decode_from s (i + 1) t
unfolding decode_from
blank-on s i x t n b =
    let e : eqb s.place 6 ≡ false = ne_eqb s.place 6 n in
    ap (λ (m : Quantum). arrive m i (decode_from m (i + 1) t)) (blank-moved s x b)
    ∙ ap (λ (a : Bool). cond a (none (fault i)) (decode_from (to s.place s) (i + 1) t)) e
    ∙ to-decode s (i + 1) t

ends-alike : (s : Quantum) (i j : ℕ) → Alike (decode_from s i []) (decode_from s j [])
unfolding decode_from
ends-alike s i j = go (whole s)
  where
    go : (b : Bool) → Alike (cond b (none good) (none (fault i))) (cond b (none good) (none (fault j)))
    go true = record { octets = refl; end = refl }
    go false = record { octets = refl; end = refl }

arrive-alike : (m : Quantum) (i j : ℕ) (d e : Decoded) → ((m.place ≡ 6 → ⊥) → Alike d e) → Alike (arrive m i d) (arrive m j e)
arrive-alike m i j d e f = go (eqb m.place 6) refl m.complete
  where
    go : (b : Bool) → eqb m.place 6 ≡ b → (c : Bool)
        → Alike (cond b (none (fault i)) (cond c (onto m.octet d) d)) (cond b (none (fault j)) (cond c (onto m.octet e) e))
    go true p c = record { octets = refl; end = refl }
    go false p true = let a = f (eqb-false m.place 6 p) in record { octets = ap (λ (l : List ℕ). m.octet ∷ l) a.octets; end = a.end }
    go false p false = f (eqb-false m.place 6 p)

pub unblanked-alike : (s : Quantum) (i j : ℕ) (t : List ℕ) → (s.place ≡ 6 → ⊥) → Alike (decode_from s i t) (decode_from s j (unblanked t))
unfolding unblanked decode_from
unblanked-alike s i j [] n = ends-alike s i j
unblanked-alike s i j (x ∷ t) n = go (blank x) refl (unblanked-alike s (i + 1) j t n) (λ m. unblanked-alike m (i + 1) (j + 1) t)
  where
    go : (b : Bool) → blank x ≡ b → Alike (decode_from s (i + 1) t) (decode_from s j (unblanked t))
        → ((m : Quantum) → (m.place ≡ 6 → ⊥) → Alike (decode_from m (i + 1) t) (decode_from m (j + 1) (unblanked t)))
        → Alike (decode_from s i (x ∷ t)) (decode_from s j (cond b (unblanked t) (x ∷ unblanked t)))
    go true p a f = rw (blank-on s i x t n p) a
    go false p a f = arrive-alike (moved x s) i j _ _ (f (moved x s))

-- an encoding has none
abbrev Plain : ℕ → Type 0
Plain x = blank x ≡ false

characters-plain : (n v : ℕ) → All Plain (characters n v)
characters-plain zero v = tt
characters-plain (suc n) v =
    let h : v % 64 < 64 = omega arith in
    all_append Plain (characters n (v / 64)) (character (v % 64) ∷ []) (characters-plain n (v / 64)) (character-blank (v % 64) h, tt)

encode-plain : (bs : List ℕ) → All Plain (encode bs)
unfolding encode
encode-plain [] = tt
encode-plain (a ∷ []) = all_append Plain (characters 2 (a * 16)) (61 ∷ 61 ∷ []) (characters-plain 2 (a * 16)) (refl, (refl, tt))
encode-plain (a ∷ b ∷ []) = all_append Plain (characters 3 ((a * 256 + b) * 4)) (61 ∷ []) (characters-plain 3 ((a * 256 + b) * 4)) (refl, tt)
encode-plain (a ∷ b ∷ c ∷ bs) =
    all_append Plain (characters 4 ((a * 256 + b) * 256 + c)) (encode bs) (characters-plain 4 ((a * 256 + b) * 256 + c)) (encode-plain bs)

plain-stays : (t : List ℕ) → All Plain t → unblanked t ≡ t
unfolding unblanked
plain-stays [] h = refl
plain-stays (x ∷ t) h = ap (λ (b : Bool). cond b (unblanked t) (x ∷ unblanked t)) h.0 ∙ ap (λ (u : List ℕ). x ∷ u) (plain-stays t h.1)

pub encode-unblanked : (bs : List ℕ) → unblanked (encode bs) ≡ encode bs
encode-unblanked bs = plain-stays (encode bs) (encode-plain bs)
