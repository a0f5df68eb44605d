-- A text is of one address: two addresses with the same text are the same, in IPv4 and in IPv6. Assumes nothing.
use Rattle.std.specs.Prelude.{◌≡◌, refl, Bool, true, false, ◌⊎◌, List, [], ◌∷◌, ◌++◌, map, ℕ, ◌+◌, ◌-◌, ◌/◌, ◌≤◌, ◌<◌, eqb, ltb, length, get_or, take, drop}
use Rattle.std.proofs.Common.{sym, ap, ◌∙◌, inl, inr, append-nil, append_assoc, arith, eqb-true, ltb-true, ltb-false, length-append, length-drop, take-append-drop, length-take-le, get_or-take, get_or-drop, drop-cons, ext_get_or}
use Rattle.std.proofs.Math.Bool.{and-eq-true_iff}
use Rattle.octets.specs.Numbers.{Octet, Bytes, at16, words, numbers_of, zeros, all_zero}
use Rattle.octets.specs.NumbersLaws.{bytes-get_or, words-length, words_small, numbers-words, zero-zeros}
use Rattle.octets.specs.Lists.{All}
use Rattle.octets.specs.ListsLaws.{all_right, all_take, all_drop, all_map}
use Rattle.ips.specs.Ips.{decimal, hex, led, joined, text4, run_of, colons, around, shortened, mapped, mixed, text6}
use Rattle.ips.specs.Claims.{Field, Fields, Zeros, Digit}
use Rattle.ips.specs.NumeralLaws.{numeral-some, numeral-same}
use Rattle.ips.specs.RunLaws.{run-longest, run_inside}
use Rattle.ips.specs.IpsLaws.{by-run, by-mapped, decimal-digits, hex-digits, shortened-all}

-- ---- parts and separators

-- l has no c
abbrev Without : ℕ → List ℕ → Type 0
Without c l = All (λ x. x ≡ c → ⊥) l

-- nothing, or begins with c
abbrev Stops : ℕ → List ℕ → Type 0
Stops c [] = Unit
Stops c (x ∷ l) = x ≡ c

-- nothing, or begins with two of c: what may stand after joined parts
abbrev Ends : ℕ → List ℕ → Type 0
Ends c [] = Unit
Ends c (x ∷ []) = ⊥
Ends c (x ∷ y ∷ l) = (x ≡ c) × (y ≡ c)

ends-stop : (c : ℕ) (r : List ℕ) → Ends c r → Stops c r
ends-stop c [] h = tt
ends-stop c (x ∷ []) h = absurd h
ends-stop c (x ∷ y ∷ r) h = h.0

-- a part ends where the first separator stands
first_part : (c : ℕ) (u v r s : List ℕ) → Without c u → Without c v → Stops c r → Stops c s → u ++ r ≡ v ++ s → (u ≡ v) × (r ≡ s)
first_part c [] [] r s hu hv hr hs e = (refl, e)
first_part c [] (y ∷ v) r s hu hv hr hs e = let h : Stops c (y ∷ (v ++ s)) = rw e at hr in absurd (hv.0 h)
first_part c (x ∷ u) [] r s hu hv hr hs e = let h : Stops c (x ∷ (u ++ r)) = rw (← e) at hs in absurd (hu.0 h)
first_part c (x ∷ u) (y ∷ v) r s hu hv hr hs e =
    let q : u ++ r ≡ v ++ s = cc in
    let k = first_part c u v r s hu.1 hv.1 hr hs q in
    let front : u ≡ v = k.0 in
    let head : x ≡ y = cc in
    (cc, k.1)

-- no part begins with the separator
not_first : (c x : ℕ) (l u t : List ℕ) → 1 ≤ length u → Without c u → x ≡ c → x ∷ l ≡ u ++ t → ⊥
not_first c x l [] t n h e q = omega arith
not_first c x l (y ∷ u) t n h e q = let z : y ≡ x = cc in h.0 (z ∙ e)

-- parts, each of one number of those that Q allows, with no separator in them
module _ (Q : ℕ → Type 0) (c : ℕ) (f : ℕ → List ℕ) (some : (x : ℕ) → 1 ≤ length (f x)) (without : (x : ℕ) → Q x → Without c (f x))
    (same : (x y : ℕ) → Q x → Q y → f x ≡ f y → x ≡ y) where
  led-stops : (xs r : List ℕ) → Ends c r → Stops c (led c (map f xs) ++ r)
  led-stops [] r h = ends-stop c r h
  led-stops (x ∷ xs) r h = refl

  part_same : (x y : ℕ) (xs ys r s : List ℕ) → Q x → Q y → Ends c r → Ends c s → f x ++ (led c (map f xs) ++ r) ≡ f y ++ (led c (map f ys) ++ s)
      → (x ≡ y) × (led c (map f xs) ++ r ≡ led c (map f ys) ++ s)
  part_same x y xs ys r s hx hy hr hs e =
      let k = first_part c (f x) (f y) (led c (map f xs) ++ r) (led c (map f ys) ++ s) (without x hx) (without y hy) (led-stops xs r hr) (led-stops ys s hs) e in
      (same x y hx hy k.0, k.1)

  -- what ends parts is not one part more
  not-led : (y : ℕ) (r t : List ℕ) → Q y → Ends c r → r ≡ c ∷ (f y ++ t) → ⊥
  not-led y [] t hy h e = let z : ◌≡◌ {A = ℕ} 0 1 = cc in omega arith
  not-led y (a ∷ []) t hy h e = h
  not-led y (a ∷ b ∷ r) t hy h e = let q : b ∷ r ≡ f y ++ t = cc in not_first c b r (f y) t (some y) (without y hy) h.1 q

  not-part : (y : ℕ) (r t : List ℕ) → Q y → Ends c r → r ≡ f y ++ t → ⊥
  not-part y [] t hy h e = omega (arith, some y, simp length-append at (ap length e))
  not-part y (a ∷ []) t hy h e = h
  not-part y (a ∷ b ∷ r) t hy h e = not_first c a (b ∷ r) (f y) t (some y) (without y hy) h.0 e

  led-same : (xs ys r s : List ℕ) → All Q xs → All Q ys → Ends c r → Ends c s → led c (map f xs) ++ r ≡ led c (map f ys) ++ s → (xs ≡ ys) × (r ≡ s)
  led-same [] [] r s hx hy hr hs e = (refl, e)
  led-same [] (y ∷ ys) r s hx hy hr hs e = absurd (not-led y r (led c (map f ys) ++ s) hy.0 hr (rw append_assoc at e))
  led-same (x ∷ xs) [] r s hx hy hr hs e = absurd (not-led x s (led c (map f xs) ++ r) hx.0 hs (sym (rw append_assoc at e)))
  led-same (x ∷ xs) (y ∷ ys) r s hx hy hr hs e =
      let q : f x ++ (led c (map f xs) ++ r) ≡ f y ++ (led c (map f ys) ++ s) = simp append_assoc at (ap (λ (l : List ℕ). drop 1 l) e) in
      let k = part_same x y xs ys r s hx.0 hy.0 hr hs q in
      let rest = led-same xs ys r s hx.1 hy.1 hr hs k.1 in
      let head : x ≡ y = k.0 in
      let tail : xs ≡ ys = rest.0 in
      (cc, rest.1)

  pub joined_same : (xs ys r s : List ℕ) → All Q xs → All Q ys → Ends c r → Ends c s → joined c (map f xs) ++ r ≡ joined c (map f ys) ++ s → (xs ≡ ys) × (r ≡ s)
  joined_same [] [] r s hx hy hr hs e = (refl, e)
  joined_same [] (y ∷ ys) r s hx hy hr hs e = absurd (not-part y r (led c (map f ys) ++ s) hy.0 hr (rw append_assoc at e))
  joined_same (x ∷ xs) [] r s hx hy hr hs e = absurd (not-part x s (led c (map f xs) ++ r) hx.0 hs (sym (rw append_assoc at e)))
  joined_same (x ∷ xs) (y ∷ ys) r s hx hy hr hs e = led-same (x ∷ xs) (y ∷ ys) r s hx hy hr hs (ap (λ (l : List ℕ). c ∷ l) e)

-- ---- IPv4

digit_not : (c : ℕ) → (c ≡ 46) ⊎ (c ≡ 58) → (x : ℕ) → Digit x → x ≡ c → ⊥
digit_not c (inl q) x (inl d) e = omega arith
digit_not c (inl q) x (inr d) e = omega arith
digit_not c (inr q) x (inl d) e = omega arith
digit_not c (inr q) x (inr d) e = omega arith

pub text4-same : (a b : List ℕ) → Bytes a → Bytes b → text4 a ≡ text4 b → a ≡ b
unfolding text4
text4-same a b ha hb e = (joined_same (λ x. x < 256) 46 decimal (numeral-some 10 2)
    (λ x h. all_map Digit (λ x. x ≡ 46 → ⊥) (decimal x) (digit_not 46 (inl refl)) (decimal-digits x h))
    (λ x y h k q. numeral-same 10 (omega arith) (omega arith) 2 x y (omega arith) (omega arith) q)
    a b [] [] ha hb tt tt (append-nil (text4 a) ∙ e ∙ sym (append-nil (text4 b)))).0

-- ---- IPv6: fields

colons-same : (fs gs r s : List ℕ) → Fields fs → Fields gs → Ends 58 r → Ends 58 s → colons fs ++ r ≡ colons gs ++ s → (fs ≡ gs) × (r ≡ s)
unfolding colons
colons-same fs gs r s hf hg hr hs e = joined_same (λ x. x < 65536) 58 hex (numeral-some 16 3)
    (λ x h. all_map Digit (λ x. x ≡ 58 → ⊥) (hex x) (digit_not 58 (inr refl)) (hex-digits x h))
    (λ x y h k q. numeral-same 16 (omega arith) (omega arith) 3 x y (omega arith) (omega arith) q)
    fs gs r s hf hg hr hs e

-- lists that agree before and after zeros
zeros-same : (fs gs : List ℕ) (s n : ℕ) → length fs ≡ length gs → Zeros fs s n → Zeros gs s n → take s fs ≡ take s gs → drop (s + n) fs ≡ drop (s + n) gs → fs ≡ gs
zeros-same fs gs s n e z y before after = ext_get_or 0 fs gs e (λ i h. go i (ltb i s) refl (ltb i (s + n)) refl)
  where
    go : (i : ℕ) (p : Bool) → ltb i s ≡ p → (q : Bool) → ltb i (s + n) ≡ q → get_or fs i 0 ≡ get_or gs i 0
    go i true t q u =
        let l : i < s = ltb-true _ _ t in
        sym (get_or-take s fs i 0 l) ∙ ap (λ (m : List ℕ). get_or m i 0) before ∙ get_or-take s gs i 0 l
    go i false t true u =
        let k : ℕ = i - s in
        let here : s + k ≡ i = omega (arith, ltb-false i s t) in
        let l : k < n = omega (arith, ltb-true i (s + n) u, ltb-false i s t) in
        rw here at (z.zero k l ∙ sym (y.zero k l))
    go i false t false u =
        let k : ℕ = i - (s + n) in
        let here : s + n + k ≡ i = omega (arith, ltb-false i (s + n) u) in
        rw here at (sym (get_or-drop (s + n) fs k 0) ∙ ap (λ (m : List ℕ). get_or m k 0) after ∙ get_or-drop (s + n) gs k 0)

around-same : (fs gs : List ℕ) → Fields fs → Fields gs → length fs ≡ length gs → ((run_of fs).count ≡ 0 → ⊥) → ((run_of gs).count ≡ 0 → ⊥)
    → around (run_of fs) fs ≡ around (run_of gs) gs → fs ≡ gs
unfolding around
around-same fs gs hf hg e nf ng q =
    let s : ℕ = (run_of fs).start in
    let n : ℕ = (run_of fs).count in
    let t : ℕ = (run_of gs).start in
    let m : ℕ = (run_of gs).count in
    let parts = colons-same (take s fs) (take t gs) (58 ∷ 58 ∷ colons (drop (s + n) fs)) (58 ∷ 58 ∷ colons (drop (t + m) gs)) (all_take Field s fs hf) (all_take Field t gs hg) (refl, refl) (refl, refl) q in
    let texts : colons (drop (s + n) fs) ++ [] ≡ colons (drop (t + m) gs) ++ [] = simp append-nil (ap (λ (l : List ℕ). drop 2 l) parts.1) in
    let after : drop (s + n) fs ≡ drop (t + m) gs = (colons-same (drop (s + n) fs) (drop (t + m) gs) [] [] (all_drop Field (s + n) fs hf) (all_drop Field (t + m) gs hg) tt tt texts).0 in
    let inf = run_inside fs in
    let ing = run_inside gs in
    let starts : s ≡ t = sym (length-take-le s fs (omega arith)) ∙ ap length parts.0 ∙ length-take-le t gs (omega arith) in
    let ends : length fs - (s + n) ≡ length gs - (t + m) = sym (length-drop (s + n) fs) ∙ ap length after ∙ length-drop (t + m) gs in
    let counts : n ≡ m = omega arith in
    zeros-same fs gs s n e (run-longest fs nf).1.zeros (rw (starts, counts) (run-longest gs ng).1.zeros) (parts.0 ∙ rw starts) (after ∙ rw (starts, counts))

-- fields with no run are not fields around one
whole-not-around : (fs gs : List ℕ) → Fields fs → Fields gs → colons fs ≡ around (run_of gs) gs → ⊥
unfolding around
whole-not-around fs gs hf hg e =
    let s : ℕ = (run_of gs).start in
    let rest : List ℕ = 58 ∷ 58 ∷ colons (drop (s + (run_of gs).count) gs) in
    let q = (colons-same fs (take s gs) [] rest hf (all_take Field s gs hg) tt (refl, refl) (append-nil (colons fs) ∙ e)).1 in
    let z : ◌≡◌ {A = ℕ} 0 1 = cc in
    omega arith

shortened_same : (fs gs : List ℕ) → Fields fs → Fields gs → length fs ≡ length gs → shortened (run_of fs) fs ≡ shortened (run_of gs) gs → fs ≡ gs
shortened_same fs gs hf hg e = by-run (λ l. l ≡ shortened (run_of gs) gs → fs ≡ gs) (run_of fs) fs
    (λ n. by-run (λ l. colons fs ≡ l → fs ≡ gs) (run_of gs) gs
    (λ m q. (colons-same fs gs [] [] hf hg tt tt (append-nil (colons fs) ∙ q ∙ sym (append-nil (colons gs)))).0)
    (λ m q. absurd (whole-not-around fs gs hf hg q)))
    (λ n. by-run (λ l. around (run_of fs) fs ≡ l → fs ≡ gs) (run_of gs) gs
    (λ m q. absurd (whole-not-around gs fs hg hf (sym q)))
    (λ m q. around-same fs gs hf hg e n m q))

-- ---- IPv6: octets

pub fields-same : (a b : List ℕ) → Bytes a → Bytes b → length a ≡ 16 → length b ≡ 16 → words a ≡ words b → a ≡ b
fields-same a b ha hb la lb e = sym (numbers-words a ha (omega arith)) ∙ ap numbers_of e ∙ numbers-words b hb (omega arith)

-- ---- IPv6: mapped addresses

-- an IPv4-mapped address is ten zeros, two octets of ones, and the IPv4 address (RFC 4291 §2.5.5.2)
pub mapped-octets : (a : List ℕ) → Bytes a → length a ≡ 16 → mapped a ≡ true → a ≡ zeros 10 ++ (255 ∷ 255 ∷ drop 12 a)
unfolding mapped
mapped-octets a h l e =
    let both = (and-eq-true_iff (all_zero (take 10 a)) (eqb (at16 a 10) 65535)).0 e in
    let ten : length (take 10 a) ≡ 10 = length-take-le 10 a (omega arith) in
    let front : take 10 a ≡ zeros 10 = zero-zeros (take 10 a) both.0 ∙ ap zeros ten in
    let ones : at16 a 10 ≡ 65535 = eqb-true _ _ both.1 in
    let low : get_or a 11 0 < 256 = bytes-get_or a 11 h in
    let high : get_or a 10 0 < 256 = bytes-get_or a 10 h in
    let p : get_or a 10 0 ≡ 255 = omega arith in
    let q : get_or a 11 0 ≡ 255 = omega arith in
    let back : drop 10 a ≡ 255 ∷ 255 ∷ drop 12 a = drop-cons a 10 0 (omega arith) ∙ rw p (ap (λ (r : List ℕ). 255 ∷ r) (drop-cons a 11 0 (omega arith) ∙ rw q)) in
    sym (take-append-drop 10 a) ∙ ap (λ (r : List ℕ). r ++ drop 10 a) front ∙ ap (λ (r : List ℕ). zeros 10 ++ r) back

-- no dot stands in fields, and one in mixed notation
has-dot : (a : List ℕ) → length a ≡ 4 → Without 46 (text4 a) → ⊥
unfolding text4
has-dot [] l h = omega arith
has-dot (x ∷ []) l h = omega arith
has-dot (x ∷ y ∷ a) l h = (all_right (λ x. x ≡ 46 → ⊥) (decimal x) (46 ∷ (decimal y ++ led 46 (map decimal a))) h).0 refl

mixed-not-fields : (a b : List ℕ) → Bytes b → length a ≡ 16 → mixed a ≡ shortened (run_of (words b)) (words b) → ⊥
unfolding mixed
mixed-not-fields a b hb l e =
    let all = shortened-all (λ x. x ≡ 46 → ⊥) (digit_not 46 (inl refl)) (λ q. omega arith) (run_of (words b)) (words b) (words_small b hb) in
    let four : length (drop 12 a) ≡ 4 = length-drop 12 a ∙ omega arith in
    let here : Without 46 (mixed a) = rw (← e) at all in
    has-dot (drop 12 a) four here.1.1.1.1.1.1.1

pub text6-same : (a b : List ℕ) → Bytes a → Bytes b → length a ≡ 16 → length b ≡ 16 → text6 a ≡ text6 b → a ≡ b
unfolding mixed
text6-same a b ha hb la lb = by-mapped (λ l. l ≡ text6 b → a ≡ b) a
    (λ t. by-mapped (λ l. mixed a ≡ l → a ≡ b) b
    (λ u q.
    let last : drop 12 a ≡ drop 12 b = text4-same (drop 12 a) (drop 12 b) (all_drop Octet 12 a ha) (all_drop Octet 12 b hb) (ap (λ (l : List ℕ). drop 7 l) q) in
    mapped-octets a ha la t ∙ rw last (sym (mapped-octets b hb lb u)))
    (λ u q. absurd (mixed-not-fields a b hb la q)))
    (λ t. by-mapped (λ l. shortened (run_of (words a)) (words a) ≡ l → a ≡ b) b
    (λ u q. absurd (mixed-not-fields b a ha lb (sym q)))
    (λ u q.
    let long : length (words a) ≡ length (words b) = words-length a ∙ ap (λ (n : ℕ). n / 2) (la ∙ sym lb) ∙ sym (words-length b) in
    fields-same a b ha hb la lb (shortened_same (words a) (words b) (words_small a ha) (words_small b hb) long q)))
