-- The laws of numbers as octets, over the width: what is written is read, and what is read is written. Assumes nothing.
use Rattle.std.specs.Prelude.{◌≡◌, refl, true, ◌↔◌, List, [], ◌∷◌, ◌++◌, ℕ, zero, suc, ◌+◌, ◌*◌, ◌/◌, ◌%◌, ◌^◌, ◌≤◌, ◌<◌, eqb, length, get_or, take, drop}
use Rattle.std.proofs.Common.{sym, ap, ap₂, ◌∙◌, append-nil, mul_comm, mul_assoc, pow-suc, add-zero, zero-add, one-mul, add-suc, suc-add, add_assoc, add-one, arith, eqb-true, length-append, length-drop, take-suc, drop-cons, get_or-drop, take_at, drop_at}
use Rattle.std.proofs.Math.Bool.{and-eq-true_iff}
use Rattle.std.proofs.Math.Seq.{append_snoc}
use Rattle.std.proofs.lemmas.List.{take-append-le, drop-append-le}
use Rattle.octets.specs.Lists.{All}
use Rattle.octets.specs.Numbers.{be, val, val_from, at16, at32, number_at, Bytes, words, numbers_of, zeros, all_zero}

pub bytes-at : (l : List ℕ) → ((i : ℕ) → get_or l i 0 < 256) → Bytes l
bytes-at [] h = tt
bytes-at (x ∷ xs) h = (h 0, bytes-at xs (λ i. h (suc i)))

pub length-be : (w v : ℕ) → length (be w v) ≡ w
length-be zero v = refl
length-be (suc w) v = length-append (be w (v / 256)) (v % 256 ∷ []) ∙ ap (λ (n : ℕ). n + 1) (length-be w (v / 256)) ∙ add-one w

val-snoc : (a x : ℕ) (l : List ℕ) → val_from a (l ++ (x ∷ [])) ≡ val_from a l * 256 + x
val-snoc a x [] = refl
val-snoc a x (y ∷ ys) = val-snoc (a * 256 + y) x ys

-- what was written is read
pub val-be : (w v : ℕ) → v < 256 ^ w → val (be w v) ≡ v
val-be zero v h = omega arith
val-be (suc w) v h =
    let e : 256 ^ suc w ≡ 256 ^ w * 256 = pow-suc 256 w in
    let k : v / 256 < 256 ^ w = omega arith in
    val-snoc 0 (v % 256) (be w (v / 256)) ∙ rw (val-be w (v / 256) k) (omega arith)

be-from : (w a : ℕ) (l : List ℕ) → Bytes l → be (w + length l) (val_from a l) ≡ be w a ++ l
be-from w a [] h = rw (add-zero, append-nil)
be-from w a (x ∷ xs) h =
    let q : (a * 256 + x) / 256 ≡ a = omega (arith, h.0) in
    let r : (a * 256 + x) % 256 ≡ x = omega (arith, h.0) in
    let e : w + suc (length xs) ≡ suc w + length xs = add-suc w (length xs) ∙ sym (suc-add w (length xs)) in
    rw e (be-from (suc w) (a * 256 + x) xs h.1 ∙ rw (q, r) (append_snoc (be w a) x xs))

-- what was read is written
pub be-val : (l : List ℕ) → Bytes l → be (length l) (val l) ≡ l
be-val l h = rw zero-add at (be-from 0 0 l h)

-- four octets are two and two
pub halves : (v : ℕ) → be 4 v ≡ be 2 (v / 65536) ++ be 2 (v % 65536)
halves v =
    let a : v / 256 / 256 / 256 ≡ v / 65536 / 256 = omega arith in
    let b : v / 256 / 256 ≡ v / 65536 = omega arith in
    let d : v / 256 % 256 ≡ v % 65536 / 256 % 256 = omega arith in
    let e : v % 256 ≡ v % 65536 % 256 = omega arith in
    cc

pub bytes-get_or : (l : List ℕ) (i : ℕ) → Bytes l → get_or l i 0 < 256
bytes-get_or [] i h = omega arith
bytes-get_or (x ∷ xs) zero h = h.0
bytes-get_or (x ∷ xs) (suc i) h = bytes-get_or xs i h.1

val-small-from : (a m : ℕ) (l : List ℕ) → Bytes l → a < m → val_from a l < m * 256 ^ length l
val-small-from a m [] h k = omega arith
val-small-from a m (x ∷ xs) h k =
    let i = val-small-from (a * 256 + x) (m * 256) xs h.1 (omega (arith, h.0)) in
    rw (pow-suc 256 (length xs), mul_comm (256 ^ length xs) 256, ← (mul_assoc m 256 (256 ^ length xs))) i

-- w octets make a number below 256 to the w
pub val-small : (l : List ℕ) → Bytes l → val l < 256 ^ length l
val-small l h = rw one-mul at (val-small-from 0 1 l h (omega arith))

-- ---- numbers of a width at an index

-- none, and an octet more
pub number-none : (i : ℕ) (s : List ℕ) → 0 ≡ number_at 0 i s
unfolding number_at
number-none i s = refl

pub number-next : (w i : ℕ) (s : List ℕ) → i + w < length s → number_at (suc w) i s ≡ number_at w i s * 256 + get_or s (i + w) 0
unfolding number_at
number-next w i s h =
    let k : w < length (drop i s) = rw length-drop (omega arith) in
    rw (take-suc (drop i s) w 0 k, val-snoc 0 (get_or (drop i s) w 0) (take w (drop i s)), get_or-drop i s w 0)

-- so the numbers of one, two and four octets, as the code makes them
module _ (s : List ℕ) (i : ℕ) where
  pub number-8 : i < length s → get_or s i 0 ≡ number_at 1 i s
  number-8 h = rw (number-next 0 i s (omega arith), ← (number-none i s), add-zero i) (omega arith)

  pub number-16 : i + 1 < length s → at16 s i ≡ number_at 2 i s
  number-16 h = rw (number-next 1 i s h, ← (number-8 (omega arith)))

  pub number-32 : i + 3 < length s → at32 s i ≡ number_at 4 i s
  number-32 h = rw (number-next 3 i s h, number-next 2 i s (omega arith), ← (number-16 (omega arith)), add_assoc i 2 1) (omega arith)

  module _ {w x : ℕ} (h : i + w ≤ length s) where
    pub number-one : w ≡ 1 → x ≡ get_or s i 0 → x ≡ number_at w i s
    number-one e k = rw e (k ∙ number-8 (omega arith))

    pub number-two : w ≡ 2 → x ≡ at16 s i → x ≡ number_at w i s
    number-two e k = rw e (k ∙ number-16 (omega arith))

-- what follows is not looked at
pub number-local : (w i : ℕ) (s t : List ℕ) → i + w ≤ length s → number_at w i (s ++ t) ≡ number_at w i s
unfolding number_at
number-local w i s t h =
    ap (λ (l : List ℕ). val (take w l)) (drop-append-le i s t (omega arith))
    ∙ ap val (take-append-le w (drop i s) t (simp length-drop (omega arith)))

-- a number after others is read at their length
pub number-laid : (w i v : ℕ) (a b : List ℕ) → v < 256 ^ w → length a ≡ i → number_at w i (a ++ (be w v ++ b)) ≡ v
unfolding number_at
number-laid w i v a b h e =
    ap (λ (l : List ℕ). val (take w l)) (drop_at a (be w v ++ b) i e)
    ∙ ap val (take_at (be w v) b w (length-be w v))
    ∙ val-be w v h

-- ---- numbers of two octets, one after another

pub words-length : (v : List ℕ) → length (words v) ≡ length v / 2
unfolding words
words-length [] = refl
words-length (a ∷ []) = refl
words-length (a ∷ b ∷ v) = omega (arith, words-length v)

pub words_small : (v : List ℕ) → Bytes v → All (λ w. w < 65536) (words v)
unfolding words
words_small [] o = tt
words_small (a ∷ []) o = tt
words_small (a ∷ b ∷ v) o = (omega (arith, o.0, o.1.0), words_small v o.1.1)

-- one more, and none
pub words-cons : (s : List ℕ) (i : ℕ) → i + 1 < length s → words (drop i s) ≡ at16 s i ∷ words (drop (i + 2) s)
unfolding words
words-cons s i h =
    let a : i + 1 ≡ suc i = omega arith in
    let b : i + 2 ≡ suc (suc i) = omega arith in
    rw (a, b) (ap words (drop-cons s i 0 (omega arith) ∙ ap (λ (l : List ℕ). get_or s i 0 ∷ l) (drop-cons s (suc i) 0 (omega arith))))

words-short : (s : List ℕ) → length s ≤ 1 → words s ≡ []
unfolding words
words-short [] h = refl
words-short (a ∷ []) h = refl
words-short (a ∷ b ∷ s) h = absurd (omega arith)

pub words-end : (s : List ℕ) (i : ℕ) → length s ≤ i + 1 → words (drop i s) ≡ []
words-end s i h = words-short (drop i s) (simp length-drop (omega arith))

pub length-numbers : (ws : List ℕ) → length (numbers_of ws) ≡ 2 * length ws
length-numbers [] = refl
length-numbers (w ∷ ws) = let i = length-numbers ws in omega arith

-- what was written is read
pub words-numbers : (ws : List ℕ) → All (λ w. w < 65536) ws → words (numbers_of ws) ≡ ws
unfolding words
words-numbers [] h = refl
words-numbers (w ∷ ws) h =
    let e : w / 256 % 256 * 256 + w % 256 ≡ w = omega (arith, h.0) in
    ap₂ (λ (x : ℕ) (l : List ℕ). x ∷ l) e (words-numbers ws h.1)

-- and what was read is written
pub numbers-words : (v : List ℕ) → Bytes v → length v % 2 ≡ 0 → numbers_of (words v) ≡ v
unfolding words
numbers-words [] o h = refl
numbers-words (a ∷ []) o h = absurd (omega arith)
numbers-words (a ∷ b ∷ v) o h =
    let q : (a * 256 + b) / 256 % 256 ≡ a = omega (arith, o.0, o.1.0) in
    let r : (a * 256 + b) % 256 ≡ b = omega (arith, o.1.0) in
    rw (q, r, numbers-words v o.1.1 (omega arith))

-- ---- zeros

pub zeros-zero : (n : ℕ) → all_zero (zeros n) ≡ true
unfolding all_zero
zeros-zero zero = refl
zeros-zero (suc n) = zeros-zero n

pub zero-exactly : (l : List ℕ) → (all_zero l ≡ true) ↔ All (λ x. x ≡ 0) l
unfolding all_zero
zero-exactly [] = (λ _. tt, λ _. refl)
zero-exactly (x ∷ xs) =
    let both = and-eq-true_iff (eqb x 0) (all_zero xs) in
    let rest = zero-exactly xs in
    (λ e. (eqb-true x 0 (both.0 e).0, rest.0 (both.0 e).1), λ h. both.1 (rw h.0, rest.1 h.1))

-- so they are as many zeros
pub zero-zeros : (l : List ℕ) → all_zero l ≡ true → l ≡ zeros (length l)
zero-zeros l h = zeros-are l ((zero-exactly l).0 h)
  where
    zeros-are : (l : List ℕ) → All (λ x. x ≡ 0) l → l ≡ zeros (length l)
    zeros-are [] h = refl
    zeros-are (x ∷ xs) h = let q : x ≡ 0 = h.0 in let r = zeros-are xs h.1 in cc
