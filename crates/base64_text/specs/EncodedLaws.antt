-- The laws of the alphabet, and of one, two and three octets in characters. Assumes nothing.
use Rattle.std.specs.Prelude.{◌≡◌, refl, Bool, true, false, not, ◌&&◌, List, [], ◌∷◌, ℕ, zero, suc, ◌+◌, ◌-◌, ◌*◌, ◌/◌, ◌%◌, ◌≤◌, ◌<◌, eqb}
use Rattle.std.proofs.Common.{ap, ap₂, ◌∙◌, arith, lt-ltb, le-ltb, eqb-true}
use Rattle.std.proofs.Math.Bool.{and-eq-true_iff}
use Rattle.std.proofs.lemmas.Bool.{not-true, eqb-false}
use Rattle.octets.specs.Cases.{by-test}
use Rattle.octets.specs.Numbers.{range}
use Rattle.base64_text.specs.Base64.{blank, value}
use Rattle.base64_text.specs.Base64Laws.{range-true}
use Rattle.base64_text.specs.Encoded.{character, encode}

-- ---- the alphabet

-- a test of every number below n
abbrev every : ℕ → (ℕ → Bool) → Bool
every zero f = true
every (suc n) f = f n && every n f

every_one : (f : ℕ → Bool) (n v : ℕ) → every n f ≡ true → v < n → f v ≡ true
every_one f zero v e h = absurd (omega arith)
every_one f (suc n) v e h =
    let q = (and-eq-true_iff (f n) (every n f)).0 e in
    by-test (eqb v n) (λ b. f v ≡ true) (λ p. ap f (eqb-true v n p) ∙ q.0)
    (λ p. let z = eqb-false v n p in every_one f n v q.1 (omega arith))

-- a character of the alphabet has its value, and is no blank and no padding
valued : every 64 (λ v. eqb (value (character v)) v) ≡ true
unfolding value character
valued = refl

no_blank : every 64 (λ v. not (blank (character v))) ≡ true
unfolding character
no_blank = refl

no-padding : every 64 (λ v. not (eqb (character v) 61)) ≡ true
unfolding character
no-padding = refl

module _ (v : ℕ) (h : v < 64) where
  pub character-value : value (character v) ≡ v
  character-value = eqb-true (value (character v)) v (every_one (λ v. eqb (value (character v)) v) 64 v valued h)

  pub character-blank : blank (character v) ≡ false
  character-blank = not-true (blank (character v)) (every_one (λ v. not (blank (character v))) 64 v no_blank h)

  pub character-padding : eqb (character v) 61 ≡ false
  character-padding = not-true (eqb (character v) 61) (every_one (λ v. not (eqb (character v) 61)) 64 v no-padding h)

-- what has a value is its character
value-upper : (x : ℕ) → range 65 90 x ≡ true → character (value x) ≡ x
unfolding value character
value-upper x e =
    let q = range-true 65 90 x e in
    let h : x - 65 < 26 = omega (arith, q.0, q.1) in
    rw (e, lt-ltb (x - 65) 26 h) (omega (arith, q.0))

value-lower : (x : ℕ) → range 65 90 x ≡ false → range 97 122 x ≡ true → character (value x) ≡ x
unfolding value character
value-lower x d e =
    let q = range-true 97 122 x e in
    let h : 26 ≤ x - 97 + 26 = omega arith in
    let k : x - 97 + 26 < 52 = omega (arith, q.0, q.1) in
    rw (d, e, le-ltb (x - 97 + 26) 26 h, lt-ltb (x - 97 + 26) 52 k) (omega (arith, q.0))

value-digit : (x : ℕ) → range 65 90 x ≡ false → range 97 122 x ≡ false → range 48 57 x ≡ true → character (value x) ≡ x
unfolding value character
value-digit x c d e =
    let q = range-true 48 57 x e in
    let g : 26 ≤ x - 48 + 52 = omega arith in
    let h : 52 ≤ x - 48 + 52 = omega arith in
    let k : x - 48 + 52 < 62 = omega (arith, q.0, q.1) in
    rw (c, d, e, le-ltb (x - 48 + 52) 26 g, le-ltb (x - 48 + 52) 52 h, lt-ltb (x - 48 + 52) 62 k) (omega (arith, q.0))

value-other : (x : ℕ) → range 65 90 x ≡ false → range 97 122 x ≡ false → range 48 57 x ≡ false → value x < 64 → character (value x) ≡ x
unfolding value character
value-other x c d e h = go (eqb x 43) refl (eqb x 47) refl
  where
    go : (a : Bool) → eqb x 43 ≡ a → (b : Bool) → eqb x 47 ≡ b → character (value x) ≡ x
    go true p b q = let z : x ≡ 43 = eqb-true x 43 p in rw z refl
    go false p true q = let z : x ≡ 47 = eqb-true x 47 q in rw z refl
    go false p false q = let z : value x ≡ 64 = rw (c, d, e, p, q) in absurd (omega (arith, z, h))

pub value-character : (x : ℕ) → value x < 64 → character (value x) ≡ x
value-character x h = go (range 65 90 x) refl (range 97 122 x) refl (range 48 57 x) refl
  where
    go : (a : Bool) → range 65 90 x ≡ a → (b : Bool) → range 97 122 x ≡ b → (c : Bool) → range 48 57 x ≡ c → character (value x) ≡ x
    go true p b q c r = value-upper x p
    go false p true q c r = value-lower x p q
    go false p false q true r = value-digit x p q r
    go false p false q false r = value-other x p q r h

-- ---- octets in characters

pub encode_one : (a : ℕ) → a < 256 → encode (a ∷ []) ≡ character (a / 4) ∷ character (a % 4 * 16) ∷ 61 ∷ 61 ∷ []
unfolding encode
encode_one a h =
    let p : a * 16 / 64 % 64 ≡ a / 4 = omega arith in
    let q : a * 16 % 64 ≡ a % 4 * 16 = omega arith in
    ap₂ (λ (x y : ℕ). character x ∷ character y ∷ 61 ∷ 61 ∷ []) p q

pub encode-two : (a b : ℕ) → a < 256 → b < 256
    → encode (a ∷ b ∷ []) ≡ character (a / 4) ∷ character (a % 4 * 16 + b / 16) ∷ character (b % 16 * 4) ∷ 61 ∷ []
unfolding encode
encode-two a b h k =
    let n : (a * 256 + b) * 4 / 64 ≡ a * 16 + b / 16 = omega arith in
    let p : (a * 16 + b / 16) / 64 % 64 ≡ a / 4 = omega arith in
    let q : (a * 16 + b / 16) % 64 ≡ a % 4 * 16 + b / 16 = omega arith in
    let r : (a * 256 + b) * 4 % 64 ≡ b % 16 * 4 = omega arith in
    rw (n, p, q, r)

pub encode-three : (a b c : ℕ) (t : List ℕ) → a < 256 → b < 256 → c < 256
    → encode (a ∷ b ∷ c ∷ t)
    ≡ character (a / 4) ∷ character (a % 4 * 16 + b / 16) ∷ character (b % 16 * 4 + c / 64) ∷ character (c % 64) ∷ encode t
unfolding encode
encode-three a b c t h k l =
    let m : ((a * 256 + b) * 256 + c) / 64 ≡ (a * 256 + b) * 4 + c / 64 = omega arith in
    let n : ((a * 256 + b) * 4 + c / 64) / 64 ≡ a * 16 + b / 16 = omega arith in
    let p : (a * 16 + b / 16) / 64 % 64 ≡ a / 4 = omega arith in
    let q : (a * 16 + b / 16) % 64 ≡ a % 4 * 16 + b / 16 = omega arith in
    let r : ((a * 256 + b) * 4 + c / 64) % 64 ≡ b % 16 * 4 + c / 64 = omega arith in
    let s : ((a * 256 + b) * 256 + c) % 64 ≡ c % 64 = omega arith in
    rw (m, n, p, q, r, s)

-- ---- the octets of characters that they are in

pub first_back : (a b : ℕ) → a < 256 → b < 256 → a / 4 % 64 * 4 + (a % 4 * 16 + b / 16) / 16 ≡ a
first_back a b h k =
    let p : a / 4 % 64 ≡ a / 4 = omega arith in
    let q : (a % 4 * 16 + b / 16) / 16 ≡ a % 4 = omega arith in
    rw (p, q) (omega arith)

pub first_alone : (a : ℕ) → a < 256 → a / 4 % 64 * 4 + a % 4 * 16 / 16 ≡ a
first_alone a h =
    let p : a / 4 % 64 ≡ a / 4 = omega arith in
    let q : a % 4 * 16 / 16 ≡ a % 4 = omega arith in
    rw (p, q) (omega arith)

pub second_back : (a b c : ℕ) → b < 256 → c < 256 → (a % 4 * 16 + b / 16) % 16 * 16 + (b % 16 * 4 + c / 64) / 4 ≡ b
second_back a b c h k =
    let p : (a % 4 * 16 + b / 16) % 16 ≡ b / 16 = omega arith in
    let q : (b % 16 * 4 + c / 64) / 4 ≡ b % 16 = omega arith in
    rw (p, q) (omega arith)

pub second-alone : (a b : ℕ) → b < 256 → (a % 4 * 16 + b / 16) % 16 * 16 + b % 16 * 4 / 4 ≡ b
second-alone a b h =
    let p : (a % 4 * 16 + b / 16) % 16 ≡ b / 16 = omega arith in
    let q : b % 16 * 4 / 4 ≡ b % 16 = omega arith in
    rw (p, q) (omega arith)

pub third_back : (b c : ℕ) → c < 256 → (b % 16 * 4 + c / 64) % 4 * 64 + c % 64 ≡ c
third_back b c h =
    let p : (b % 16 * 4 + c / 64) % 4 ≡ c / 64 = omega arith in
    rw p (omega arith)
