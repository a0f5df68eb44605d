-- A number in decimal: the digits that `io::decimal` writes, the fewest that hold it, are those of the definition. Assumes nothing.
use Rattle.std.specs.Prelude.{◌≡◌, refl, Bool, true, false, cond, List, [], ◌∷◌, ◌++◌, ℕ, zero, suc, ◌-◌, ◌*◌, ◌/◌, ◌%◌, ◌^◌, ◌≤◌, ◌<◌, ltb}
use Rattle.std.proofs.Common.{sym, ap, ap₂, ◌∙◌, arith, lt-ltb, ltb-true, ltb-false}
use Rattle.std.proofs.Math.Nat.{pow-succ', one-le-pow}
use Rattle.io.specs.Digits.{hex_digit_ascii, last_digits, IsDigitCount}
use Rattle.ips.specs.Ips.{digit, numeral}
use Rattle.chars.specs.Ascii.{decimal_of}

same-digit : (d : ℕ) → d < 10 → digit d ≡ hex_digit_ascii d
unfolding digit
same-digit d h = simp (lt-ltb d 10 h)

-- the least number of k + 2 digits
least-of : (k n : ℕ) → IsDigitCount 10 1 n (suc (suc k)) → 10 * 10 ^ k ≤ n
least-of k n f =
    let e : suc (suc k) - 1 ≡ suc k = omega arith in
    let h : 10 ^ suc k ≤ n = rw e at (f.2 (omega arith)) in
    omega (arith, pow-succ' 10 k)

-- a digit is held by one
one-digit : (k n : ℕ) → n < 10 → IsDigitCount 10 1 n k → last_digits 10 k n ≡ digit n ∷ []
one-digit zero n h f = absurd (omega (arith, f.0))
one-digit (suc zero) n h f =
    let e : n % 10 ≡ n = omega arith in
    ap (λ (d : ℕ). hex_digit_ascii d ∷ []) e ∙ ap (λ (d : ℕ). d ∷ []) (sym (same-digit n h))
one-digit (suc (suc k)) n h f = absurd (omega (arith, least-of k n f, one-le-pow k 10 (omega arith)))

-- what is left of a number without its last digit is held by one digit less
one_less : (k n : ℕ) → IsDigitCount 10 1 n (suc (suc k)) → IsDigitCount 10 1 (n / 10) (suc k)
one_less k n f = (
  omega arith,
  omega (arith, f.1, pow-succ' 10 (suc k)),
  λ more.
      let e : suc k - 1 ≡ k = omega arith in
      rw e (omega (arith, least-of k n f)),
)

-- a number of two digits or more, where what is left without the last is as it should be
two_digits : (ds : List ℕ) (k n : ℕ) → 10 ≤ n → IsDigitCount 10 1 n k → ((j : ℕ) → IsDigitCount 10 1 (n / 10) j → ds ≡ last_digits 10 j (n / 10))
    → ds ++ (digit (n % 10) ∷ []) ≡ last_digits 10 k n
two_digits ds zero n h f next = absurd (omega (arith, f.0))
two_digits ds (suc zero) n h f next = absurd (omega (arith, f.1, pow-succ' 10 0))
two_digits ds (suc (suc k)) n h f next = ap₂ (λ (l : List ℕ) (d : ℕ). l ++ (d ∷ [])) (next (suc k) (one_less k n f)) (same-digit (n % 10) (omega arith))

-- a number in at most 1 + more digits
numeral-digits : (more k n : ℕ) → n < 10 ^ suc more → IsDigitCount 10 1 n k → numeral 10 more n ≡ last_digits 10 k n
unfolding numeral
numeral-digits zero k n h f = sym (one-digit k n (omega (arith, pow-succ' 10 0)) f)
numeral-digits (suc more) k n h f = go (λ j g. numeral-digits more j (n / 10) (omega (arith, h, pow-succ' 10 (suc more))) g) (ltb n 10) refl
  where
    go : ((j : ℕ) → IsDigitCount 10 1 (n / 10) j → numeral 10 more (n / 10) ≡ last_digits 10 j (n / 10)) → (b : Bool) → ltb n 10 ≡ b
        → cond b (digit n ∷ []) (numeral 10 more (n / 10) ++ (digit (n % 10) ∷ [])) ≡ last_digits 10 k n
    go next true t = sym (one-digit k n (ltb-true _ _ t) f)
    go next false t = two_digits (numeral 10 more (n / 10)) k n (ltb-false _ _ t) f next

pub decimal-digits : (k n : ℕ) → n < 100000000000000000000 → IsDigitCount 10 1 n k → decimal_of n ≡ last_digits 10 k n
decimal-digits k n h f = numeral-digits 19 k n h f
