-- The laws of strings: by cases of an octet; every character of a string is printable, and no two texts have the same string. Assumes nothing.
use Rattle.std.specs.Prelude.{◌≡◌, refl, Bool, true, false, cond, ℕ, ◌+◌, ◌-◌, ◌*◌, ◌/◌, ◌%◌, ◌≤◌, ◌<◌, min, leb, ltb, eqb, length, get_or, take, drop}
use Rattle.std.proofs.Common.{sym, ap, ◌∙◌, length-take, drop_of_length-le}
use mathlib.Core.List.{List, [], ◌∷◌, ◌++◌}
use native.Mathlib.Omega.{arith}
use borrow.Author.Tests.{leb-true, leb-false, ltb-false, eqb-true, eqb-false, lt-ltb, le-ltb, ne_eqb}
use Rattle.octets.specs.Lists.{All}
use Rattle.octets.specs.ListsLaws.{drop-take, all_append}
use Rattle.octets.specs.Numbers.{Bytes}
use Rattle.chars.specs.Ascii.{ascii}
use Rattle.hexes.specs.Hexes.{value, digit_of}
use Rattle.hexes.specs.HexesLaws.{value-decimal, value-lower}
use Rattle.lines.specs.Objects.{unit_of, letter_of, string_of, Printable, inner_of}

-- ---- an octet, as the code writes it

module _ {x : ℕ} where
  pub letter-low : x < 32 → unit_of x ≡ letter_of x
  unfolding letter_of
  letter-low h = simp (lt-ltb x 32 h)

  pub letter-high : 126 < x → unit_of x ≡ letter_of x
  unfolding letter_of
  letter-high h =
      let low : 32 ≤ x = omega arith in
      simp (le-ltb x 32 low, lt-ltb 126 x h)

  pub letter-plain : 32 ≤ x → x ≤ 126 → (x ≡ 34 → ⊥) → (x ≡ 92 → ⊥) → x ∷ [] ≡ letter_of x
  unfolding letter_of
  letter-plain l h q b = simp (le-ltb x 32 l, le-ltb 126 x h, ne_eqb x 34 q, ne_eqb x 92 b)

-- the octets that stand after a backslash
pub letter-quotation : ascii "\\\"" ≡ letter_of 34
unfolding letter_of
letter-quotation = refl

pub letter-backslash : ascii "\\\\" ≡ letter_of 92
unfolding letter_of
letter-backslash = refl

-- what a line says is the part of it between two places
pub inner-is : (line : List ℕ) {end from : ℕ} → end ≡ length line - 1 → from ≡ min 5 end → take (end - from) (drop from line) ≡ inner_of line
inner-is line {end} {from} e f = go (leb 5 end) refl
  where
    go : (b : Bool) → leb 5 end ≡ b → take (end - from) (drop from line) ≡ inner_of line
    go true t =
        let h : 5 ≤ end = leb-true 5 end t in
        let five : from ≡ 5 = omega arith in
        ap (λ (i : ℕ). take (end - i) (drop i line)) five ∙ sym (drop-take 5 end line) ∙ ap (λ (n : ℕ). drop 5 (take n line)) e
    go false t =
        let h : end < 5 = leb-false 5 end t in
        let none : end - from ≡ 0 = omega arith in
        ap (λ (n : ℕ). take n (drop from line)) none
        ∙ sym (drop_of_length-le (take (length line - 1) line) {i = 5} (omega (arith, length-take (length line - 1) line)))

-- ---- an octet by cases

-- to show something of an octet in a string, show it of each form
by-letter : (x : ℕ) (P : List ℕ → Type 0) → P (unit_of x) → (x ≡ 34 → P (ascii "\\\"")) → (x ≡ 92 → P (ascii "\\\\"))
    → (32 ≤ x → x ≤ 126 → (x ≡ 92 → ⊥) → P (x ∷ [])) → P (letter_of x)
unfolding letter_of
by-letter x P unit mark slash plain = go (ltb x 32) refl (ltb 126 x) refl (eqb x 34) refl (eqb x 92) refl
  where
    go : (a : Bool) → ltb x 32 ≡ a → (b : Bool) → ltb 126 x ≡ b → (c : Bool) → eqb x 34 ≡ c → (d : Bool) → eqb x 92 ≡ d
        → P (cond a (unit_of x) (cond b (unit_of x) (cond c (ascii "\\\"") (cond d (ascii "\\\\") (x ∷ [])))))
    go true p b q c r d s = unit
    go false p true q c r d s = unit
    go false p false q true r d s = mark (eqb-true x 34 r)
    go false p false q false r true s = slash (eqb-true x 92 s)
    go false p false q false r false s = plain (ltb-false x 32 p) (ltb-false 126 x q) (eqb-false x 92 s)

-- a digit written is printable and has its value
digit-of : (v : ℕ) → v < 16 → Printable (digit_of v) × (value (digit_of v) ≡ v)
unfolding digit_of
digit-of v h = go (leb 10 v) refl
  where
    go : (b : Bool) → leb 10 v ≡ b → Printable (digit_of v) × (value (digit_of v) ≡ v)
    go true e =
        let l : 10 ≤ v = leb-true 10 v e in
        simp (le-ltb v 10 l) ((omega arith, omega arith), value-lower (87 + v) (omega arith) ∙ omega arith)
    go false e =
        let l : v < 10 = leb-false 10 v e in
        simp (lt-ltb v 10 l) ((omega arith, omega arith), value-decimal (48 + v) (omega arith) ∙ omega arith)

-- ---- a string is printable

letter-printable : (x : ℕ) → x < 256 → All Printable (letter_of x)
letter-printable x h =
    let high = digit-of (x / 16) (omega arith) in
    let low = digit-of (x % 16) (omega arith) in
    by-letter x (All Printable)
    ((omega arith, omega arith), ((omega arith, omega arith), ((omega arith, omega arith), ((omega arith, omega arith), (high.0, (low.0, tt))))))
    (λ e. ((omega arith, omega arith), ((omega arith, omega arith), tt)))
    (λ e. ((omega arith, omega arith), ((omega arith, omega arith), tt)))
    (λ l k n. ((l, k), tt))

pub string-plain : (s : List ℕ) → Bytes s → All Printable (string_of s)
unfolding string_of
string-plain [] h = tt
string-plain (x ∷ s) h = all_append Printable (letter_of x) (string_of s) (letter-printable x h.0) (string-plain s h.1)

-- ---- no two texts have the same string

-- the octet that a string begins with, and what follows it
first_of : List ℕ → ℕ
first_of l = cond (eqb (get_or l 0 0) 92) (cond (eqb (get_or l 1 0) 117) (value (get_or l 4 0) * 16 + value (get_or l 5 0)) (get_or l 1 0)) (get_or l 0 0)

rest_of : List ℕ → List ℕ
rest_of l = cond (eqb (get_or l 0 0) 92) (cond (eqb (get_or l 1 0) 117) (drop 6 l) (drop 2 l)) (drop 1 l)

module _ (x : ℕ) (r : List ℕ) where
  letter-read : x < 256 → (first_of (letter_of x ++ r) ≡ x) × (rest_of (letter_of x ++ r) ≡ r)
  unfolding first_of rest_of
  letter-read h =
      let high = digit-of (x / 16) (omega arith) in
      let low = digit-of (x % 16) (omega arith) in
      let whole : value (digit_of (x / 16)) * 16 + value (digit_of (x % 16)) ≡ x = omega (arith, high.1, low.1) in
      by-letter x (λ (l : List ℕ). (first_of (l ++ r) ≡ x) × (rest_of (l ++ r) ≡ r))
      (whole, refl)
      (λ e. (sym e, refl))
      (λ e. (sym e, refl))
      (λ l k n. simp (ne_eqb x 92 n) (refl, refl))

  letter-some : [] ≡ letter_of x ++ r → ⊥
  letter-some =
      by-letter x (λ (l : List ℕ). [] ≡ l ++ r → ⊥)
      (λ e. let z = ap length e in absurd (omega arith))
      (λ _ e. let z = ap length e in absurd (omega arith))
      (λ _ e. let z = ap length e in absurd (omega arith))
      (λ _ _ _ e. let z = ap length e in absurd (omega arith))

pub string-once : (s t : List ℕ) → Bytes s → Bytes t → string_of s ≡ string_of t → s ≡ t
unfolding string_of
string-once [] [] h k e = refl
string-once [] (y ∷ t) h k e = absurd (letter-some y (string_of t) e)
string-once (x ∷ s) [] h k e = absurd (letter-some x (string_of s) (sym e))
string-once (x ∷ s) (y ∷ t) h k e =
    let a = letter-read x (string_of s) h.0 in
    let b = letter-read y (string_of t) k.0 in
    let first : x ≡ y = sym a.0 ∙ ap first_of e ∙ b.0 in
    let rest : string_of s ≡ string_of t = sym a.1 ∙ ap rest_of e ∙ b.1 in
    ap (λ (n : ℕ). n ∷ s) first ∙ ap (λ (l : List ℕ). y ∷ l) (string-once s t h.1 k.1 rest)
