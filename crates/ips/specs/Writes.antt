-- What the code does in its steps, said of the definitions: a law for each return and for each turn of a loop. Assumes nothing.
use Rattle.std.specs.Prelude.{◌≡◌, refl, Bool, true, false, cond, List, [], ◌∷◌, ◌++◌, map, ℕ, zero, suc, ◌+◌, ◌-◌, ◌*◌, ◌/◌, ◌%◌, ◌^◌, ◌≤◌, ◌<◌, eqb, length, get_or, take, drop}
use Rattle.std.proofs.Common.{sym, ap, ◌∙◌, append_assoc, append-nil, add-zero, add-one, arith, length-append, take-append-drop, drop_of_length-le, drop-cons, get_or-drop, take-suc, take_all}
use borrow.Author.Tests.{lt-ltb, le-ltb, eq-eqb, ne_eqb}
use Rattle.octets.specs.Numbers.{at16, words, all_zero}
use Rattle.octets.specs.Over.{Wrote}
use Rattle.octets.specs.OverLaws.{then}
use Rattle.ips.specs.declared.Run.{Run}
use Rattle.ips.specs.Ips.{digit, numeral, decimal, hex, led, text4, zeros_ahead, run, longer, longest_from, shortening, run_of, colons, around, shortened, mapped, mixed, text6}
use Rattle.ips.specs.NumeralLaws.{fewer, one-digit}
use Rattle.ips.specs.RunLaws.{run_inside}
use Rattle.octets.specs.NumbersLaws.{words-length, words-cons}

-- ---- numbers

pub digit_low : (d : ℕ) → d < 10 → 48 + d ≡ digit d
unfolding digit
digit_low d h = rw (lt-ltb d 10 h)

pub digit-high : (d : ℕ) → 10 ≤ d → 97 + (d - 10) ≡ digit d
unfolding digit
digit-high d h = rw (le-ltb d 10 h)

-- a number below the base is one digit, and any other is its last digit after the number without it
pub numeral-one : (b k n : ℕ) → n < b → numeral b k n ≡ digit n ∷ []
unfolding numeral
numeral-one b zero n h = refl
numeral-one b (suc k) n h = rw (lt-ltb n b h)

pub numeral-more : (b k n : ℕ) → 0 < k → b ≤ n → numeral b k n ≡ numeral b (k - 1) (n / b) ++ (digit (n % b) ∷ [])
unfolding numeral
numeral-more b zero n p h = absurd (omega arith)
numeral-more b (suc k) n p h = let e : suc k - 1 ≡ k = omega arith in rw (le-ltb n b h, e)

pub more-length : (b k n : ℕ) → 0 < k → b ≤ n → length (numeral b k n) ≡ length (numeral b (k - 1) (n / b)) + 1
more-length b k n p h = ap length (numeral-more b k n p h) ∙ length-append (numeral b (k - 1) (n / b)) (digit (n % b) ∷ [])

-- a number that is not below the base has more digits, and is within them
pub has_more : (b k n : ℕ) → 0 < b → b ≤ 16 → b ≤ n → n < b ^ (k + 1) → (0 < k) × (n / b < b ^ (k - 1 + 1))
has_more b zero n some small h l = absurd (omega (arith, one-digit b some small n l))
has_more b (suc k) n some small h l =
    let e : suc k - 1 + 1 ≡ suc k = omega arith in
    let f : suc k + 1 ≡ suc (suc k) = omega arith in
    (omega arith, rw e (fewer b some small k n (rw f at l)))

module _ (b k n : ℕ) {at r d : ℕ} {l l' : List ℕ} where
  pub wrote_one : n < b → d ≡ digit n → Wrote at (d ∷ []) l r l' → Wrote at (numeral b k n) l r l'
  wrote_one h e w = rw (numeral-one b k n h, ← e) w

  pub wrote-more : {m : ℕ} {l₀ : List ℕ} → 0 < k → b ≤ n → d ≡ digit (n % b) → Wrote at (numeral b (k - 1) (n / b)) l₀ m l → Wrote m (d ∷ []) l r l' → Wrote at (numeral b k n) l₀ r l'
  wrote-more p h e w v = rw (numeral-more b k n p h, ← e) (then w v)

-- ---- the run

pub longer-second : (p q : Run) → p.count < q.count → q ≡ longer p q
longer-second p q h = rw (lt-ltb p.count q.count h)

pub longer-first : (p q : Run) → q.count ≤ p.count → p ≡ longer p q
longer-first p q h = rw (le-ltb p.count q.count h)

pub shortening-none : (r : Run) → r.count < 2 → run 0 0 ≡ shortening r
shortening-none r h = rw (lt-ltb r.count 2 h)

pub shortening-some : (r : Run) → 2 ≤ r.count → r ≡ shortening r
shortening-some r h = rw (le-ltb r.count 2 h)

pub one-zero : (f n : ℕ) → f ≡ 0 → n + 1 ≡ cond (eqb f 0) (n + 1) 0
one-zero f n e = rw (eq-eqb f 0 e)

pub no_zero : (f n : ℕ) → (f ≡ 0 → ⊥) → 0 ≡ cond (eqb f 0) (n + 1) 0
no_zero f n h = rw (ne_eqb f 0 h)

pub fields-of-drop : (k : ℕ) (a : List ℕ) → words (drop (2 * k) a) ≡ drop k (words a)
unfolding words
fields-of-drop zero a = refl
fields-of-drop (suc k) [] = let e : 2 * suc k ≡ suc (suc (2 * k)) = omega arith in rw e
fields-of-drop (suc k) (x ∷ []) = let e : 2 * suc k ≡ suc (suc (2 * k)) = omega arith in rw e
fields-of-drop (suc k) (x ∷ y ∷ a) = let e : 2 * suc k ≡ suc (suc (2 * k)) = omega arith in rw (e, fields-of-drop k a)

-- the field at an index is the number of its two octets
pub field_at : (a : List ℕ) (i : ℕ) → 2 * i + 1 < length a → get_or (words a) i 0 ≡ at16 a (2 * i)
field_at a i h =
    rw (add-zero i) at (sym (get_or-drop i (words a) 0 0))
    ∙ ap (λ (l : List ℕ). get_or l 0 0) (sym (fields-of-drop i a) ∙ words-cons a (2 * i) h)

-- one field more, from the last back
pub zeros-turn : (a : List ℕ) (i z g : ℕ) → 2 * i + 1 < length a → g ≡ at16 a (2 * i) → z ≡ zeros_ahead (drop (i + 1) (words a))
    → cond (eqb g 0) (z + 1) 0 ≡ zeros_ahead (drop i (words a))
unfolding zeros_ahead
zeros-turn a i z g h e q =
    let k : i < length (words a) = omega (arith, words-length a) in
    rw (q, e, ← (field_at a i h), add-one i, drop-cons (words a) i 0 k)

longest-step : (i z f : ℕ) (best : Run) (l m : List ℕ) → l ≡ f ∷ m → z ≡ zeros_ahead l → best ≡ longest_from (i + 1) m → longer (run i z) best ≡ longest_from i l
unfolding longest_from
longest-step i z f best l m p e q = rw (e, q, p)

pub longest-turn : (fs : List ℕ) (i z : ℕ) (best : Run) → i < length fs → z ≡ zeros_ahead (drop i fs) → best ≡ longest_from (i + 1) (drop (i + 1) fs)
    → longer (run i z) best ≡ longest_from i (drop i fs)
longest-turn fs i z best h e q = longest-step i z (get_or fs i 0) best (drop i fs) (drop (i + 1) fs) (rw (add-one i) (drop-cons fs i 0 h)) e q

-- where that walk starts no field is left
pub no_fields : (a : List ℕ) → length a ≡ 16 → drop 8 (words a) ≡ []
no_fields a e = drop_of_length-le (words a) {i = 8} (omega (arith, words-length a))

-- ---- fields

pub fields-of-take : (k : ℕ) (a : List ℕ) → words (take (2 * k) a) ≡ take k (words a)
unfolding words
fields-of-take zero a = refl
fields-of-take (suc k) [] = let e : 2 * suc k ≡ suc (suc (2 * k)) = omega arith in rw e
fields-of-take (suc k) (x ∷ []) = let e : 2 * suc k ≡ suc (suc (2 * k)) = omega arith in rw e
fields-of-take (suc k) (x ∷ y ∷ a) = let e : 2 * suc k ≡ suc (suc (2 * k)) = omega arith in rw (e, fields-of-take k a)

led-append : (xs ys : List ℕ) → led 58 (map hex (xs ++ ys)) ≡ led 58 (map hex xs) ++ led 58 (map hex ys)
led-append [] ys = refl
led-append (x ∷ xs) ys = ap (λ (l : List ℕ). 58 ∷ (hex x ++ l)) (led-append xs ys) ∙ ap (λ (l : List ℕ). 58 ∷ l) (sym (append_assoc (hex x) (led 58 (map hex xs)) (led 58 (map hex ys))))

-- fields that are written with a colon before each: there is room for the next, and it goes after those before it
module _ (a : List ℕ) (k : ℕ) (h : 2 * k + 1 < length a) where
  inside : k < length (words a)
  inside = omega (arith, words-length a)

  pub led-room : (g : ℕ) → g ≡ at16 a (2 * k) → length (led 58 (map hex (take k (words a)))) + 1 + length (hex g) ≤ length (led 58 (map hex (words a)))
  led-room g e =
      let fs : List ℕ = words a in
      let f : get_or fs k 0 ≡ g = field_at a k h ∙ sym e in
      let parts : led 58 (map hex fs) ≡ led 58 (map hex (take k fs)) ++ led 58 (map hex (drop k fs)) = ap (λ (l : List ℕ). led 58 (map hex l)) (sym (take-append-drop k fs)) ∙ led-append (take k fs) (drop k fs) in
      let next : led 58 (map hex (drop k fs)) ≡ 58 ∷ (hex g ++ led 58 (map hex (drop (suc k) fs))) = ap (λ (l : List ℕ). led 58 (map hex l)) (drop-cons fs k 0 inside) ∙ rw f in
      omega (arith, simp length-append at (ap length parts), simp length-append at (ap length next))

  pub wrote-next : {at n r g : ℕ} {l l' l'' : List ℕ} → g ≡ at16 a (2 * k) → Wrote at (led 58 (map hex (take k (words a)))) l n l' → Wrote n (58 ∷ hex g) l' r l''
      → Wrote at (led 58 (map hex (take (k + 1) (words a)))) l r l''
  wrote-next {at} {n} {r} {g} e w v =
      let fs : List ℕ = words a in
      let f : get_or fs k 0 ≡ g = field_at a k h ∙ sym e in
      let more : led 58 (map hex (take (k + 1) fs)) ≡ led 58 (map hex (take k fs)) ++ (58 ∷ (hex g ++ [])) = rw (add-one k, take-suc fs k 0 inside, f) (led-append (take k fs) (g ∷ [])) in
      rw (more, append-nil (hex g)) (then w v)

-- all of them are written
pub all-fields : (a : List ℕ) (k : ℕ) → length a / 2 ≤ k → take k (words a) ≡ words a
all-fields a k h = take_all k (words a) (omega (arith, words-length a))

pub no-colons : (a : List ℕ) → length a < 2 → colons (words a) ≡ []
unfolding colons words
no-colons [] h = refl
no-colons (x ∷ []) h = refl
no-colons (x ∷ y ∷ a) h = absurd (omega arith)

-- the first field and those after it
pub some-colons : (a : List ℕ) → 2 ≤ length a → colons (words a) ≡ hex (at16 a 0) ++ led 58 (map hex (words (drop 2 a)))
unfolding colons words
some-colons [] h = absurd (omega arith)
some-colons (x ∷ []) h = absurd (omega arith)
some-colons (x ∷ y ∷ a) h = refl

pub some-length : (a : List ℕ) (g : ℕ) → 2 ≤ length a → g ≡ at16 a 0 → length (colons (words a)) ≡ length (hex g) + length (led 58 (map hex (words (drop 2 a))))
some-length a g h e = rw (e, some-colons a h) (length-append (hex (at16 a 0)) (led 58 (map hex (words (drop 2 a)))))

pub wrote-colons : (a : List ℕ) {at m r g : ℕ} {l l' l'' : List ℕ} → 2 ≤ length a → g ≡ at16 a 0 → Wrote at (hex g) l m l'
    → Wrote m (led 58 (map hex (words (drop 2 a)))) l' r l'' → Wrote at (colons (words a)) l r l''
wrote-colons a h e w v = rw (some-colons a h, ← e) (then w v)

-- ---- the run's place in the octets

around-octets : (a : List ℕ) (s n : ℕ) → around (run s n) (words a) ≡ colons (words (take (2 * s) a)) ++ (58 ∷ 58 ∷ colons (words (drop (2 * (s + n)) a)))
unfolding around
around-octets a s n = rw (fields-of-take s a, fields-of-drop (s + n) a)

pub around-length : (a : List ℕ) (s n : ℕ)
    → length (around (run s n) (words a)) ≡ length (colons (words (take (2 * s) a))) + 2 + length (colons (words (drop (2 * (s + n)) a)))
around-length a s n = ap length (around-octets a s n) ∙ simp length-append (omega arith)

pub wrote-around : (a : List ℕ) (s n : ℕ) {at i j k r : ℕ} {l l₁ l₂ l₃ l₄ : List ℕ} → Wrote at (colons (words (take (2 * s) a))) l i l₁ → Wrote i (58 ∷ []) l₁ j l₂
    → Wrote j (58 ∷ []) l₂ k l₃ → Wrote k (colons (words (drop (2 * (s + n)) a))) l₃ r l₄ → Wrote at (around (run s n) (words a)) l r l₄
wrote-around a s n before one two after = rw (around-octets a s n) (then before (then one (then two after)))

-- where r is the run that is shortened
module _ (fs : List ℕ) (r : Run) (e : r ≡ run_of fs) where
  pub shortened-whole : r.count ≡ 0 → shortened (run_of fs) fs ≡ colons fs
  unfolding shortened
  shortened-whole z = rw (← e, eq-eqb r.count 0 z)

  pub shortened-around : (r.count ≡ 0 → ⊥) → shortened (run_of fs) fs ≡ around r fs
  unfolding shortened
  shortened-around n = rw (← e, ne_eqb r.count 0 n)

  pub within-fields : r.start + r.count ≤ length fs
  within-fields = rw e (run_inside fs)

-- ---- IPv4

pub four-octets : (a : List ℕ) → length a ≡ 4
    → text4 a ≡ decimal (get_or a 0 0) ++ ((46 ∷ decimal (get_or a 1 0)) ++ ((46 ∷ decimal (get_or a 2 0)) ++ (46 ∷ decimal (get_or a 3 0))))
unfolding text4
four-octets [] e = absurd (omega arith)
four-octets (x ∷ []) e = absurd (omega arith)
four-octets (x ∷ y ∷ []) e = absurd (omega arith)
four-octets (x ∷ y ∷ z ∷ []) e = absurd (omega arith)
four-octets (x ∷ y ∷ z ∷ w ∷ []) e = rw (append-nil (decimal w))
four-octets (x ∷ y ∷ z ∷ w ∷ v ∷ a) e = absurd (omega arith)

pub four-length : (a : List ℕ) → length a ≡ 4
    → length (text4 a) ≡ length (decimal (get_or a 0 0)) + (1 + length (decimal (get_or a 1 0))) + (1 + length (decimal (get_or a 2 0))) + (1 + length (decimal (get_or a 3 0)))
four-length a e = ap length (four-octets a e) ∙ simp length-append (omega arith)

-- ---- mapped addresses

pub is_mapped : (a : List ℕ) (z : Bool) (n : ℕ) → z ≡ all_zero (take 10 a) → z ≡ true → n ≡ at16 a 10 → eqb n 65535 ≡ mapped a
unfolding mapped
is_mapped a z n e t q = rw (← e, t, q)

pub not-mapped : (a : List ℕ) (z : Bool) → z ≡ all_zero (take 10 a) → z ≡ false → false ≡ mapped a
unfolding mapped
not-mapped a z e t = rw (← e, t)

pub mixed-length : (a : List ℕ) → length (mixed a) ≡ 7 + length (text4 (drop 12 a))
unfolding mixed
mixed-length a = omega arith

pub wrote-mixed : (a : List ℕ) {at m r : ℕ} {l l' l'' : List ℕ} → Wrote at (58 ∷ 58 ∷ 102 ∷ 102 ∷ 102 ∷ 102 ∷ 58 ∷ []) l m l' → Wrote m (text4 (drop 12 a)) l' r l''
    → Wrote at (mixed a) l r l''
unfolding mixed
wrote-mixed a w v = then w v

pub text6-mixed : (a : List ℕ) (b : Bool) → b ≡ mapped a → b ≡ true → text6 a ≡ mixed a
unfolding text6
text6-mixed a b e t = rw (← e, t)

pub text6-fields : (a : List ℕ) (b : Bool) → b ≡ mapped a → b ≡ false → text6 a ≡ shortened (run_of (words a)) (words a)
unfolding text6
text6-fields a b e t = rw (← e, t)
