-- The laws of texts: at most 15 characters for an IPv4 address and 39 for an IPv6 address, of digits, dots and colons only, so that a
-- text can stand in a JSON string as it is. Assumes nothing.
use Rattle.std.specs.Prelude.{◌≡◌, refl, true, false, cond, List, [], ◌∷◌, map, ℕ, suc, ◌+◌, ◌-◌, ◌*◌, ◌≤◌, ◌<◌, length, take, drop}
use Rattle.std.proofs.Common.{◌∙◌, inl, inr, mul-suc, arith, length-append, length-take, length-drop}
use Rattle.octets.specs.Cases.{by-test, by_equal}
use Rattle.octets.specs.Numbers.{Octet, Bytes, words}
use Rattle.octets.specs.NumbersLaws.{words-length, words_small}
use Rattle.octets.specs.Lists.{All}
use Rattle.octets.specs.ListsLaws.{all_append, all_take, all_drop, all_map}
use Rattle.ips.specs.declared.Run.{Run}
use Rattle.ips.specs.Ips.{decimal, hex, led, joined, text4, run_of, colons, around, shortened, mapped, mixed, text6}
use Rattle.ips.specs.Claims.{Field, Fields, Digit, Sign}
use Rattle.ips.specs.NumeralLaws.{numeral-length, numeral-digits}
use Rattle.ips.specs.RunLaws.{run_inside}

-- ---- by the form of a text

pub by-run : (P : List ℕ → Type 0) (r : Run) (fs : List ℕ) → (r.count ≡ 0 → P (colons fs)) → ((r.count ≡ 0 → ⊥) → P (around r fs)) → P (shortened r fs)
unfolding shortened
by-run P r fs = by_equal P r.count 0 (colons fs) (around r fs)

pub by-mapped : (P : List ℕ → Type 0) (a : List ℕ) → (mapped a ≡ true → P (mixed a)) → (mapped a ≡ false → P (shortened (run_of (words a)) (words a))) → P (text6 a)
unfolding text6
by-mapped P a = by-test (mapped a) (λ b. P (cond b (mixed a) (shortened (run_of (words a)) (words a))))

-- ---- lengths

module _ (c w : ℕ) (f : ℕ → List ℕ) (h : (x : ℕ) → length (f x) ≤ w) where
  led-length : (xs : List ℕ) → length (led c (map f xs)) ≤ suc w * length xs
  led-length [] = omega arith
  led-length (x ∷ xs) = rw (mul-suc (suc w) (length xs)) (simp length-append (omega (arith, h x, led-length xs)))

  joined_length : (xs : List ℕ) → length (joined c (map f xs)) ≤ suc w * length xs - 1
  joined_length [] = omega arith
  joined_length (x ∷ xs) = omega (arith, led-length (x ∷ xs))

pub text4-length : (a : List ℕ) → length a ≡ 4 → length (text4 a) ≤ 15
unfolding text4
text4-length a e = rw e at (joined_length 46 3 decimal (numeral-length 10 2) a)

pub colons-length : (fs : List ℕ) → length (colons fs) ≤ 5 * length fs - 1
unfolding colons
colons-length fs = joined_length 58 4 hex (numeral-length 16 3) fs

around-length : (r : Run) (fs : List ℕ) → length fs ≡ 8 → r.start + r.count ≤ 8 → length (around r fs) ≤ 5 * (8 - r.count) + 2
unfolding around
around-length r fs e h =
    let before : length (take r.start fs) ≡ r.start = length-take r.start fs ∙ omega arith in
    let after : length (drop (r.start + r.count) fs) ≡ 8 - (r.start + r.count) = length-drop (r.start + r.count) fs ∙ omega arith in
    simp length-append (omega (arith, colons-length (take r.start fs), colons-length (drop (r.start + r.count) fs)))

pub text6-length : (a : List ℕ) → length a ≡ 16 → length (text6 a) ≤ 39
unfolding mixed
text6-length a e = by-mapped (λ l. length l ≤ 39) a
    (λ t. omega (arith, text4-length (drop 12 a) (length-drop 12 a ∙ omega arith)))
    (λ t.
    let eight : length (words a) ≡ 8 = words-length a ∙ omega arith in
    by-run (λ l. length l ≤ 39) (run_of (words a)) (words a)
    (λ n. omega (arith, colons-length (words a)))
    (λ n. omega (arith, around-length (run_of (words a)) (words a) eight (rw eight at (run_inside (words a))))))

-- ---- characters

pub decimal-digits : (x : ℕ) → x < 256 → All Digit (decimal x)
decimal-digits x h = numeral-digits 10 (omega arith) (omega arith) 2 x (omega arith)

pub hex-digits : (f : ℕ) → f < 65536 → All Digit (hex f)
hex-digits f h = numeral-digits 16 (omega arith) (omega arith) 3 f (omega arith)

-- what holds of the separator and of the digits, holds of all characters
module _ (P Q : ℕ → Type 0) (c : ℕ) (f : ℕ → List ℕ) (digits : (x : ℕ) → Digit x → P x) (sep : P c) (parts : (x : ℕ) → Q x → All Digit (f x)) where
  led-all : (xs : List ℕ) → All Q xs → All P (led c (map f xs))
  led-all [] h = tt
  led-all (x ∷ xs) h = (sep, all_append P (f x) (led c (map f xs)) (all_map Digit P (f x) digits (parts x h.0)) (led-all xs h.1))

  joined-all : (xs : List ℕ) → All Q xs → All P (joined c (map f xs))
  joined-all [] h = tt
  joined-all (x ∷ xs) h = (led-all (x ∷ xs) h).1

pub text4-all : (P : ℕ → Type 0) → ((x : ℕ) → Digit x → P x) → P 46 → (a : List ℕ) → Bytes a → All P (text4 a)
unfolding text4
text4-all P digits dot a h = joined-all P Octet 46 decimal digits dot decimal-digits a h

pub colons-all : (P : ℕ → Type 0) → ((x : ℕ) → Digit x → P x) → P 58 → (fs : List ℕ) → Fields fs → All P (colons fs)
unfolding colons
colons-all P digits colon fs h = joined-all P Field 58 hex digits colon hex-digits fs h

pub shortened-all : (P : ℕ → Type 0) → ((x : ℕ) → Digit x → P x) → P 58 → (r : Run) (fs : List ℕ) → Fields fs → All P (shortened r fs)
unfolding around
shortened-all P digits colon r fs h = by-run (All P) r fs
    (λ n. colons-all P digits colon fs h)
    (λ n. all_append P (colons (take r.start fs)) (58 ∷ 58 ∷ colons (drop (r.start + r.count) fs))
    (colons-all P digits colon (take r.start fs) (all_take Field r.start fs h))
    (colon, (colon, colons-all P digits colon (drop (r.start + r.count) fs) (all_drop Field (r.start + r.count) fs h))))

pub text4-signs : (a : List ℕ) → Bytes a → All Sign (text4 a)
text4-signs a h = text4-all Sign (λ x d. inl d) (inr (inl refl)) a h

pub text6-signs : (a : List ℕ) → Bytes a → All Sign (text6 a)
unfolding mixed
text6-signs a h = by-mapped (All Sign) a
    (λ t. (colon, (colon, (letter, (letter, (letter, (letter, (colon, text4-signs (drop 12 a) (all_drop Octet 12 a h)))))))))
    (λ t. shortened-all Sign (λ x d. inl d) colon (run_of (words a)) (words a) (words_small a h))
  where
    colon : Sign 58
    colon = inr (inr refl)

    letter : Sign 102
    letter = inl (inr (omega arith, omega arith))

-- a character of a text is printable, and is neither the quotation mark nor the backslash, which a JSON string escapes (RFC 8259 §7)
pub sign-plain : (c : ℕ) → Sign c → (32 ≤ c) × (c < 127) × (c ≡ 34 → ⊥) × (c ≡ 92 → ⊥)
sign-plain c (inl (inl d)) = (omega arith, omega arith, λ e. omega arith, λ e. omega arith)
sign-plain c (inl (inr d)) = (omega arith, omega arith, λ e. omega arith, λ e. omega arith)
sign-plain c (inr (inl d)) = (omega arith, omega arith, λ e. omega arith, λ e. omega arith)
sign-plain c (inr (inr d)) = (omega arith, omega arith, λ e. omega arith, λ e. omega arith)
