-- The laws of characters and of reading, case by case, and that what is written is read back. Assumes nothing.
use Rattle.std.specs.Prelude.{◌≡◌, refl, Bool, true, false, ◌||◌, List, [], ◌∷◌, ◌++◌, ℕ, ◌+◌, ◌-◌, ◌*◌, ◌/◌, ◌%◌, ◌≤◌, ◌<◌, leb, eqb, length, get_or, take}
use Rattle.std.proofs.Common.{sym, ap, ◌∙◌, add-one, arith, leb-true, leb-false, le-leb, lt-ltb, le-ltb, ne_eqb, take-suc}
use Rattle.std.proofs.lemmas.Bool.{false≢true, lt-leb}
use Rattle.std.proofs.Math.Bool.{and-eq-true_iff}
use Rattle.octets.specs.Numbers.{range, Bytes}
use Rattle.hexes.specs.Hexes.{digit, value, separator, octet, Read, octets, other, onto, pairs, some, read_hex, digit_of, two, hex_of}

-- ---- characters

range-true : (lo hi x : ℕ) → range lo hi x ≡ true → (lo ≤ x) × (x ≤ hi)
range-true lo hi x e = let q = (and-eq-true_iff (leb lo x) (leb x hi)).0 e in (leb-true _ _ q.0, leb-true _ _ q.1)

-- to show something of a digit, show it of each of the three ranges
pub by-digit : (x : ℕ) {P : Type 0} → digit x ≡ true → (48 ≤ x → x ≤ 57 → P) → (65 ≤ x → x ≤ 70 → P) → (97 ≤ x → x ≤ 102 → P) → P
unfolding digit
by-digit x {P} e f g h = go (range 48 57 x) refl (range 65 70 x) refl (range 97 102 x) refl e
  where
    go : (a : Bool) → range 48 57 x ≡ a → (b : Bool) → range 65 70 x ≡ b → (c : Bool) → range 97 102 x ≡ c → a || b || c ≡ true → P
    go true p b q c r e = let d = range-true 48 57 x p in f d.0 d.1
    go false p true q c r e = let d = range-true 65 70 x q in g d.0 d.1
    go false p false q true r e = let d = range-true 97 102 x r in h d.0 d.1
    go false p false q false r e = absurd (false≢true e)

-- the value of a digit in each of them
pub value-decimal : (x : ℕ) → x < 65 → value x ≡ x - 48
unfolding value
value-decimal x h = simp (lt-ltb x 65 h)

pub value-upper : (x : ℕ) → 65 ≤ x → x < 97 → value x ≡ x - 55
unfolding value
value-upper x h k = simp (le-ltb x 65 h, lt-ltb x 97 k)

pub value-lower : (x : ℕ) → 97 ≤ x → value x ≡ x - 87
unfolding value
value-lower x h = let k : 65 ≤ x = omega arith in simp (le-ltb x 65 k, le-ltb x 97 h)

pub digit-decimal : (x : ℕ) → 48 ≤ x → x ≤ 57 → digit x ≡ true
unfolding digit
digit-decimal x h k = simp (le-leb 48 x h, le-leb x 57 k)

pub digit-upper : (x : ℕ) → 65 ≤ x → x ≤ 70 → digit x ≡ true
unfolding digit
digit-upper x h k =
    let l : 48 ≤ x = omega arith in
    let m : 57 < x = omega arith in
    simp (le-leb 48 x l, lt-leb x 57 m, le-leb 65 x h, le-leb x 70 k)

pub digit-lower : (x : ℕ) → 97 ≤ x → x ≤ 102 → digit x ≡ true
unfolding digit
digit-lower x h k =
    let l : 48 ≤ x = omega arith in
    let m : 57 < x = omega arith in
    let n : 65 ≤ x = omega arith in
    let o : 70 < x = omega arith in
    simp (le-leb 48 x l, lt-leb x 57 m, le-leb 65 x n, lt-leb x 70 o, le-leb 97 x h, le-leb x 102 k)

-- what is no other separator is one where it is a colon
pub separator-colon : (x : ℕ) → (x ≡ 32 → ⊥) → (x ≡ 9 → ⊥) → (x ≡ 10 → ⊥) → (x ≡ 13 → ⊥) → eqb x 58 ≡ separator x
unfolding separator
separator-colon x a b c d = simp (ne_eqb x 32 a, ne_eqb x 9 b, ne_eqb x 10 c, ne_eqb x 13 d)

-- no digit is a separator
pub digit-separator : (x : ℕ) → digit x ≡ true → separator x ≡ false
digit-separator x e =
    let p : (48 ≤ x) × (x ≡ 58 → ⊥) =
    by-digit x e (λ h k. (omega arith, λ q. omega arith)) (λ h k. (omega arith, λ q. omega arith)) (λ h k. (omega arith, λ q. omega arith)) in
    let l : 48 ≤ x = p.0 in
    sym (separator-colon x (λ q. omega arith) (λ q. omega arith) (λ q. omega arith) (λ q. omega arith)) ∙ ne_eqb x 58 p.1

-- ---- reading, case by case

pub pairs-separator : (x : ℕ) (t : List ℕ) → separator x ≡ true → pairs (x ∷ t) ≡ pairs t
unfolding pairs
pairs-separator x [] s = simp s
pairs-separator x (y ∷ t) s = simp s

pub pairs-single : (x : ℕ) → separator x ≡ false → pairs (x ∷ []) ≡ other
unfolding pairs
pairs-single x s = simp s

pub pairs-pair : (x y : ℕ) (t : List ℕ) → separator x ≡ false → digit x ≡ true → digit y ≡ true → pairs (x ∷ y ∷ t) ≡ onto (octet x y) (pairs t)
unfolding pairs
pairs-pair x y t s d e = simp (s, d, e)

pub pairs_first : (x y : ℕ) (t : List ℕ) → separator x ≡ false → digit x ≡ false → pairs (x ∷ y ∷ t) ≡ other
unfolding pairs
pairs_first x y t s d = simp (s, d)

pub pairs-second : (x y : ℕ) (t : List ℕ) → separator x ≡ false → digit x ≡ true → digit y ≡ false → pairs (x ∷ y ∷ t) ≡ other
unfolding pairs
pairs-second x y t s d e = simp (s, d, e)

-- what `some` lets through
pub some_is : (r : Read) (bs : List ℕ) → some r ≡ octets bs → (r ≡ octets bs) × (1 ≤ length bs)
some_is (octets []) bs e = let z : ◌≡◌ {A = ℕ} 0 1 = cc in absurd (omega arith)
some_is (octets (b ∷ cs)) [] e = let z : ◌≡◌ {A = ℕ} 0 1 = cc in absurd (omega arith)
some_is (octets (b ∷ cs)) (d ∷ ds) e = (e, omega arith)
some_is other bs e = let z : ◌≡◌ {A = ℕ} 0 1 = cc in absurd (omega arith)

pub is_some : (bs : List ℕ) → 1 ≤ length bs → some (octets bs) ≡ octets bs
is_some [] h = absurd (omega arith)
is_some (b ∷ bs) h = refl

-- ---- what is written is read back

-- a digit written has its value
digit-of : (v : ℕ) → v < 16 → (digit (digit_of v) ≡ true) × (value (digit_of v) ≡ v)
unfolding digit_of
digit-of v h = go (leb 10 v) refl
  where
    go : (b : Bool) → leb 10 v ≡ b → (digit (digit_of v) ≡ true) × (value (digit_of v) ≡ v)
    go true e =
        let l : 10 ≤ v = leb-true 10 v e in
        simp (le-ltb v 10 l) (digit-lower (87 + v) (omega arith) (omega arith), value-lower (87 + v) (omega arith) ∙ omega arith)
    go false e =
        let l : v < 10 = leb-false 10 v e in
        simp (lt-ltb v 10 l) (digit-decimal (48 + v) (omega arith) (omega arith), value-decimal (48 + v) (omega arith) ∙ omega arith)

pub pairs-hex : (bs : List ℕ) → Bytes bs → pairs (hex_of bs) ≡ octets bs
unfolding pairs
pairs-hex [] h = refl
pairs-hex (b ∷ bs) h =
    let high = digit-of (b / 16) (omega (arith, h.0)) in
    let low = digit-of (b % 16) (omega arith) in
    let whole : value (digit_of (b / 16)) * 16 + value (digit_of (b % 16)) ≡ b = omega (arith, high.1, low.1) in
    pairs-pair (digit_of (b / 16)) (digit_of (b % 16)) (hex_of bs) (digit-separator (digit_of (b / 16)) high.0) high.0 low.0
    ∙ ap (onto (octet (digit_of (b / 16)) (digit_of (b % 16)))) (pairs-hex bs h.1)
    ∙ ap (λ (n : ℕ). octets (n ∷ bs)) whole

pub hex-read : (bs : List ℕ) → Bytes bs → 1 ≤ length bs → read_hex (hex_of bs) ≡ octets bs
hex-read bs h k = ap some (pairs-hex bs h) ∙ is_some bs k

hex-append : (a b : List ℕ) → hex_of (a ++ b) ≡ hex_of a ++ hex_of b
hex-append [] b = refl
hex-append (x ∷ a) b = ap (λ (l : List ℕ). two x ++ l) (hex-append a b)

-- one octet more
pub hex-more : (s : List ℕ) (i : ℕ) → i < length s → hex_of (take (i + 1) s) ≡ hex_of (take i s) ++ two (get_or s i 0)
hex-more s i h = rw (add-one i, take-suc s i 0 h) (hex-append (take i s) (get_or s i 0 ∷ []))
