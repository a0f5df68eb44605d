-- The laws of numerals: how long they are, of which characters, that none begins with a needless zero, and that each is of one number,
-- in any base up to 16. Assumes nothing.
use Rattle.std.specs.Prelude.{◌≡◌, refl, length}
use Rattle.std.proofs.Math.Path.{sym, ap}
use Rattle.std.proofs.Common.{◌∙◌, inl, inr, pow-suc, one-mul, div-lt_iff_lt-mul, arith, length-append}
use mathlib.Core.List.{List, [], ◌∷◌, ◌++◌}
use Prim.Native.Nat.{ℕ, zero, suc, ◌+◌, ◌-◌, ◌*◌, ◌/◌, ◌%◌, ◌^◌, ◌≤◌, ◌<◌}
use Rattle.std.proofs.Math.Nat.{pow-zero, mod-lt, div-add-mod'}
use Rattle.std.proofs.Math.ListN.{get_or, get_or-append}
use Rattle.octets.specs.Cases.{by_less}
use Rattle.octets.specs.Lists.{All}
use Rattle.octets.specs.ListsLaws.{part_apart, all_append}
use Rattle.ips.specs.Ips.{digit, numeral}
use Rattle.ips.specs.Claims.{Digit}

-- ---- digits

by_ten : (P : ℕ → Type 0) (d : ℕ) → (d < 10 → P (48 + d)) → (10 ≤ d → P (97 + (d - 10))) → P (digit d)
unfolding digit
by_ten P d = by_less P d 10 (48 + d) (97 + (d - 10))

pub digit-sign : (d : ℕ) → d < 16 → Digit (digit d)
digit-sign d h = by_ten Digit d (λ l. inl (omega arith, omega arith)) (λ g. inr (omega arith, omega arith))

pub digit-same : (d e : ℕ) → d < 16 → e < 16 → digit d ≡ digit e → d ≡ e
digit-same d e h k = by_ten (λ x. x ≡ digit e → d ≡ e) d
    (λ l. by_ten (λ y. 48 + d ≡ y → d ≡ e) e (λ m q. omega arith) (λ m q. omega arith))
    (λ l. by_ten (λ y. 97 + (d - 10) ≡ y → d ≡ e) e (λ m q. omega arith) (λ m q. omega arith))

zero-sign : digit 0 ≡ 48
unfolding digit
zero-sign = refl

-- ---- numerals

-- by whether one digit is enough
by-base : (P : List ℕ → Type 0) (b k n : ℕ) → (n < b → P (digit n ∷ [])) → (b ≤ n → P (numeral b k (n / b) ++ (digit (n % b) ∷ []))) → P (numeral b (suc k) n)
unfolding numeral
by-base P b k n = by_less P n b (digit n ∷ []) (numeral b k (n / b) ++ (digit (n % b) ∷ []))

pub numeral-some : (b k n : ℕ) → 1 ≤ length (numeral b k n)
unfolding numeral
numeral-some b zero n = omega arith
numeral-some b (suc k) n = by-base (λ l. 1 ≤ length l) b k n (λ h. omega arith) (λ h. simp length-append (omega arith))

pub numeral-length : (b k n : ℕ) → length (numeral b k n) ≤ suc k
unfolding numeral
numeral-length b zero n = omega arith
numeral-length b (suc k) n = go (numeral-length b k (n / b))
  where
    go : length (numeral b k (n / b)) ≤ suc k → length (numeral b (suc k) n) ≤ suc (suc k)
    go ih = by-base (λ l. length l ≤ suc (suc k)) b k n (λ h. omega arith) (λ h. simp length-append (omega arith))

-- a text of one character is no longer numeral
one-not-more : (b k n x y : ℕ) → x ∷ [] ≡ numeral b k n ++ (y ∷ []) → ⊥
one-not-more b k n x y q = omega (arith, numeral-some b k n, simp length-append at (ap length q))

-- what stands before the last, and the last
snoc-same : (u v : List ℕ) (x y : ℕ) → u ++ (x ∷ []) ≡ v ++ (y ∷ []) → (u ≡ v) × (x ≡ y)
snoc-same u v x y q =
    let long : length u ≡ length v = omega (arith, simp length-append at (ap length q)) in
    let k = part_apart u v (x ∷ []) (y ∷ []) long q in
    let last : x ∷ [] ≡ y ∷ [] = k.1 in
    (k.0, cc)

module _ (b : ℕ) (some : 0 < b) (small : b ≤ 16) where
  -- a number of k + 1 digits with its last one gone
  pub fewer : (k n : ℕ) → n < b ^ suc (suc k) → n / b < b ^ suc k
  fewer k n h = (div-lt_iff_lt-mul {k = b} {x = n} {y = b ^ suc k} some).1 (rw (pow-suc b (suc k)) at h)

  pub one-digit : (n : ℕ) → n < b ^ 1 → n < b
  one-digit n h = rw (pow-suc b 0, pow-zero b, one-mul b) at h

  pub numeral-digits : (k n : ℕ) → n < b ^ suc k → All Digit (numeral b k n)
  unfolding numeral
  numeral-digits zero n h = (digit-sign n (omega (arith, one-digit n h)), tt)
  numeral-digits (suc k) n h = go (numeral-digits k (n / b) (fewer k n h))
    where
      go : All Digit (numeral b k (n / b)) → All Digit (numeral b (suc k) n)
      go ih = by-base (All Digit) b k n (λ l. (digit-sign n (omega arith), tt)) (λ g. all_append Digit (numeral b k (n / b)) (digit (n % b) ∷ []) ih (digit-sign (n % b) (omega (arith, mod-lt n some)), tt))

  -- a numeral begins with a zero only if the number is zero (RFC 5952 §4.1)
  pub numeral-lead : (k n : ℕ) → n < b ^ suc k → get_or (numeral b k n) 0 0 ≡ 48 → n ≡ 0
  unfolding numeral
  numeral-lead zero n h = λ e. digit-same n 0 (omega (arith, one-digit n h)) (omega arith) (e ∙ sym zero-sign)
  numeral-lead (suc k) n h = go (numeral-lead k (n / b) (fewer k n h))
    where
      go : (get_or (numeral b k (n / b)) 0 0 ≡ 48 → n / b ≡ 0) → get_or (numeral b (suc k) n) 0 0 ≡ 48 → n ≡ 0
      go ih = by-base (λ l. get_or l 0 0 ≡ 48 → n ≡ 0) b k n (λ l e. digit-same n 0 (omega arith) (omega arith) (e ∙ sym zero-sign)) (λ g e.
          let q : n / b ≡ 0 = ih (sym (get_or-append (numeral b k (n / b)) (digit (n % b) ∷ []) 0 0 (numeral-some b k (n / b))) ∙ e) in
          absurd (omega (arith, div-add-mod' n b, mod-lt n some, ap (λ (x : ℕ). x * b) q)))

  -- a numeral is of one number
  pub numeral-same : (k m n : ℕ) → m < b ^ suc k → n < b ^ suc k → numeral b k m ≡ numeral b k n → m ≡ n
  unfolding numeral
  numeral-same zero m n h i e = digit-same m n (omega (arith, one-digit m h)) (omega (arith, one-digit n i)) (ap (λ (l : List ℕ). get_or l 0 0) e)
  numeral-same (suc k) m n h i e = go (numeral-same k (m / b) (n / b) (fewer k m h) (fewer k n i)) e
    where
      go : (numeral b k (m / b) ≡ numeral b k (n / b) → m / b ≡ n / b) → numeral b (suc k) m ≡ numeral b (suc k) n → m ≡ n
      go ih = by-base (λ l. l ≡ numeral b (suc k) n → m ≡ n) b k m
          (λ l. by-base (λ r. digit m ∷ [] ≡ r → m ≡ n) b k n
          (λ l' q. digit-same m n (omega arith) (omega arith) (ap (λ (r : List ℕ). get_or r 0 0) q))
          (λ g q. absurd (one-not-more b k (n / b) (digit m) (digit (n % b)) q)))
          (λ g. by-base (λ r. numeral b k (m / b) ++ (digit (m % b) ∷ []) ≡ r → m ≡ n) b k n
          (λ l q. absurd (one-not-more b k (m / b) (digit n) (digit (m % b)) (sym q)))
          (λ g' q.
          let s = snoc-same (numeral b k (m / b)) (numeral b k (n / b)) (digit (m % b)) (digit (n % b)) q in
          let quotient : m / b ≡ n / b = ih s.0 in
          let remainder : m % b ≡ n % b = digit-same (m % b) (n % b) (omega (arith, mod-lt m some)) (omega (arith, mod-lt n some)) s.1 in
          sym (div-add-mod' m b) ∙ rw (quotient, remainder) (div-add-mod' n b)))
