-- The laws of what is shown by cases: octets of a value, keys, names and addresses. Assumes nothing.
use Rattle.std.specs.Prelude.{◌≡◌, refl, Bool, true, false, cond, List, [], ◌∷◌, ◌++◌, ℕ, ◌-◌, ◌≤◌, ◌<◌, min, length, take}
use native.Mathlib.Omega.{arith}
use borrow.Author.Tests.{le-leb, lt-leb, lt-ltb, le-ltb, eq-eqb, ne_eqb}
use Rattle.texts.specs.Texts.{text_of}
use Rattle.ips.specs.Ips.{text4, text6}
use Rattle.chars.specs.Ascii.{ascii, decimal_of}
use Rattle.values.specs.Values.{name_of, forever, span_of, address_of, comma, dohpath, key_of, columns, gap_of, backslash, quotation, code_of, escaped_of}

-- ---- octets of a value

module _ (json : Bool) {b : ℕ} where
  pub escaped-low : b ≤ 32 → code_of json b ≡ escaped_of json b
  unfolding escaped_of
  escaped-low h = simp (le-leb b 32 h)

  pub escaped-high : 126 < b → code_of json b ≡ escaped_of json b
  unfolding escaped_of
  escaped-high h =
      let low : 32 < b = omega arith in
      simp (lt-leb b 32 low, lt-ltb 126 b h)

  pub escaped-plain : 32 < b → b ≤ 126 → (b ≡ backslash → ⊥) → (b ≡ quotation → ⊥) → (b ≡ comma → ⊥) → b ∷ [] ≡ escaped_of json b
  unfolding escaped_of
  escaped-plain low high n m o = simp (lt-leb b 32 low, le-ltb 126 b high, ne_eqb b backslash n, ne_eqb b quotation m, ne_eqb b comma o)

-- the octets that stand after a backslash
pub escaped-backslash : (json : Bool) → cond json (ascii "\\\\\\\\") (ascii "\\\\") ≡ escaped_of json backslash
unfolding escaped_of
escaped-backslash true = refl
escaped-backslash false = refl

pub escaped-quotation : (json : Bool) → cond json (ascii "\\\\\\\"") (ascii "\\\"") ≡ escaped_of json quotation
unfolding escaped_of
escaped-quotation true = refl
escaped-quotation false = refl

pub escaped-comma : (json : Bool) → cond json (ascii "\\\\,") (ascii "\\,") ≡ escaped_of json comma
unfolding escaped_of
escaped-comma true = refl
escaped-comma false = refl

-- ---- keys, lifetimes, names and addresses

pub key-number : {k : ℕ} → (k ≡ 0 → ⊥) → (k ≡ 1 → ⊥) → (k ≡ 2 → ⊥) → (k ≡ 3 → ⊥) → (k ≡ dohpath → ⊥) → ascii "key" ++ decimal_of k ≡ key_of k
unfolding key_of
key-number {k} a b c d e = simp (ne_eqb k 0 a, ne_eqb k 1 b, ne_eqb k 2 c, ne_eqb k 3 d, ne_eqb k dohpath e)

pub gap-none : (k : ℕ) {size : ℕ} → size ≡ 0 → [] ≡ gap_of k size
unfolding gap_of
gap-none k e = simp e

pub gap-some : (k : ℕ) {size n : ℕ} → (size ≡ 0 → ⊥) → n ≡ min (length (key_of k)) (columns - 1) → take (columns - n) (ascii "                ") ≡ gap_of k size
unfolding gap_of
gap-some k {size} z e = simp (ne_eqb size 0 z, e)

pub span-some : {json : Bool} (n : ℕ) → json ≡ false → (n ≡ forever → ⊥) → (n ≡ 0 → ⊥) → decimal_of n ++ ascii " s" ≡ span_of json n
unfolding span_of
span-some n e f z = simp (e, ne_eqb n forever f, ne_eqb n 0 z)

pub name-short : (wire : List ℕ) → length wire < 2 → [] ≡ name_of wire
unfolding name_of
name-short wire h = simp (lt-ltb _ _ h)

pub name-long : (wire : List ℕ) → 2 ≤ length wire → text_of wire ≡ name_of wire
unfolding name_of
name-long wire h = simp (le-ltb _ _ h)

module _ (a : List ℕ) where
  pub address-four : length a ≡ 4 → text4 a ≡ address_of a
  unfolding address_of
  address-four h = simp (eq-eqb _ _ h)

  module _ (f : length a ≡ 4 → ⊥) where
    pub address-sixteen : length a ≡ 16 → text6 a ≡ address_of a
    unfolding address_of
    address-sixteen h = simp (ne_eqb _ _ f, eq-eqb _ _ h)

    pub address-none : (length a ≡ 16 → ⊥) → [] ≡ address_of a
    unfolding address_of
    address-none g = simp (ne_eqb _ _ f, ne_eqb _ _ g)
