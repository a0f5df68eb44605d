-- The turns of the two passes of `decode`: what holds before each, and what follows at each way out. Assumes nothing.
use Rattle.std.specs.Prelude.{◌≡◌, refl, Bool, true, false, List, [], ◌∷◌, ◌++◌, ℕ, suc, ◌+◌, ◌-◌, ◌*◌, ◌≤◌, ◌<◌, ltb, length, get_or, take, drop, set, Some, None}
use Rattle.std.specs.Bool.{then_some}
use Rattle.std.proofs.Common.{sym, ap, ◌∙◌, append-nil, zero-add, add-zero, arith, ltb-true, ltb-false, length-append, take_all}
use Rattle.std.proofs.Math.Seq.{append_snoc}
use Rattle.octets.specs.Over.{over, Wrote}
use Rattle.octets.specs.OverLaws.{over-nil, over-push}
use Rattle.hexes.specs.Hexes.{digit, value, separator, octet, Read, octets, other, onto, pairs, some, read_hex}
use Rattle.hexes.specs.HexesLaws.{pairs-separator, pairs-single, pairs-pair, pairs_first, pairs-second}
use Rattle.hexes.specs.Decoding.{octets_in, size_in, counted}

-- ---- what is left of a text

-- what is left after the first character
abbrev rest_of : List ℕ → List ℕ
rest_of l = take (length l - 1) (drop 1 l)

rest-cons : (x : ℕ) (l : List ℕ) → rest_of (x ∷ l) ≡ l
rest-cons x l = take_all (length (x ∷ l) - 1) l (omega arith)

-- to show something of what is left after two characters, show it of their lists
by-two : (P : List ℕ → ℕ → List ℕ → ℕ → Type 0) → ((x y : ℕ) (l : List ℕ) → P (x ∷ y ∷ l) x l y)
    → (l : List ℕ) → 1 ≤ length l → 1 ≤ length (rest_of l) → P l (get_or l 0 0) (rest_of (rest_of l)) (get_or (rest_of l) 0 0)
by-two P f [] h k = absurd (omega arith)
by-two P f (x ∷ l) h k = go (rest_of (x ∷ l)) (rest-cons x l) k
  where
    go : (r : List ℕ) → r ≡ l → 1 ≤ length r → P (x ∷ l) x (rest_of r) (get_or r 0 0)
    go [] e k = absurd (omega arith)
    go (y ∷ r) e k = rw (← e, rest-cons y r) (f x y r)

left-none : (l : List ℕ) → length l < 1 → pairs l ≡ octets []
unfolding pairs
left-none [] h = refl
left-none (x ∷ l) h = absurd (omega arith)

left-single : (l : List ℕ) → 1 ≤ length l → length (rest_of l) < 1 → separator (get_or l 0 0) ≡ false → pairs l ≡ other
left-single [] h k s = absurd (omega arith)
left-single (x ∷ []) h k s = pairs-single x s
left-single (x ∷ y ∷ l) h k s = let e = rest-cons x (y ∷ l) in absurd (omega (arith, ap length e))

-- ---- the first pass

-- n octets and those of what is left; none where that is no hexadecimal text
abbrev pub plus : ℕ → Read → ℕ
plus n (octets bs) = n + length bs
plus n other = 0

-- n octets stand before what is left of a text, and with those of what is left they decide
pub record Counting (t left : List ℕ) (n : ℕ) : Type 0 where
  pub few : n + length left ≤ length t
  pub rest : plus n (pairs left) ≡ size_in (read_hex t)

plus-zero : (r : Read) → plus 0 r ≡ size_in (some r)
plus-zero (octets []) = refl
plus-zero (octets (b ∷ bs)) = zero-add _
plus-zero other = refl

plus-onto : (n b : ℕ) (r : Read) → plus (n + 1) r ≡ plus n (onto b r)
plus-onto n b (octets bs) = omega arith
plus-onto n b other = refl

-- no octets are none
counted-none : (r : Read) → size_in (some r) ≡ 0 → counted (some r) ≡ None
counted-none (octets []) e = refl
counted-none (octets (b ∷ bs)) e = absurd (omega arith)
counted-none other e = refl

counted-some : (r : Read) → 1 ≤ size_in (some r) → counted (some r) ≡ Some (size_in (some r))
counted-some (octets []) h = absurd (omega arith)
counted-some (octets (b ∷ bs)) h = refl
counted-some other h = absurd (omega arith)

pub count-start : {t : List ℕ} → Counting t t 0
count-start {t} = record { few = omega arith; rest = plus-zero (pairs t) }

module _ {t : List ℕ} {n : ℕ} where
  pub count-separator : (left : List ℕ) → Counting t left n → 1 ≤ length left → separator (get_or left 0 0) ≡ true → Counting t (rest_of left) n
  count-separator [] c h s = absurd (omega arith)
  count-separator (x ∷ l) c h s =
      rw (rest-cons x l) (record { few = omega (arith, c.few); rest = ap (plus n) (sym (pairs-separator x l s)) ∙ c.rest })

  pub count-pair : (left : List ℕ) → 1 ≤ length left → 1 ≤ length (rest_of left) → Counting t left n → separator (get_or left 0 0) ≡ false
      → digit (get_or left 0 0) ≡ true → digit (get_or (rest_of left) 0 0) ≡ true → Counting t (rest_of (rest_of left)) (n + 1)
  count-pair =
      by-two (λ l x r y. Counting t l n → separator x ≡ false → digit x ≡ true → digit y ≡ true → Counting t r (n + 1))
      (λ x y l c s d e. record {
        few = omega (arith, c.few);
        rest = plus-onto n (octet x y) (pairs l) ∙ ap (plus n) (sym (pairs-pair x y l s d e)) ∙ c.rest;
      })

  count-other : {left : List ℕ} → Counting t left n → pairs left ≡ other → None ≡ counted (read_hex t)
  count-other c e = sym (counted-none (pairs t) (sym c.rest ∙ ap (plus n) e))

  pub count-single : {left : List ℕ} → Counting t left n → 1 ≤ length left → length (rest_of left) < 1 → separator (get_or left 0 0) ≡ false
      → None ≡ counted (read_hex t)
  count-single {left} c h k s = count-other c (left-single left h k s)

  pub count-first : (left : List ℕ) → 1 ≤ length left → 1 ≤ length (rest_of left) → Counting t left n → separator (get_or left 0 0) ≡ false
      → digit (get_or left 0 0) ≡ false → None ≡ counted (read_hex t)
  count-first =
      by-two (λ l x r y. Counting t l n → separator x ≡ false → digit x ≡ false → None ≡ counted (read_hex t))
      (λ x y l c s d. count-other c (pairs_first x y l s d))

  pub count-second : (left : List ℕ) → 1 ≤ length left → 1 ≤ length (rest_of left) → Counting t left n → separator (get_or left 0 0) ≡ false
      → digit (get_or left 0 0) ≡ true → digit (get_or (rest_of left) 0 0) ≡ false → None ≡ counted (read_hex t)
  count-second =
      by-two (λ l x r y. Counting t l n → separator x ≡ false → digit x ≡ true → digit y ≡ false → None ≡ counted (read_hex t))
      (λ x y l c s d e. count-other c (pairs-second x y l s d e))

module _ {t left : List ℕ} {n : ℕ} (c : Counting t left n) where
  pub count-done : length left < 1 → then_some (ltb 0 n) n ≡ counted (read_hex t)
  count-done h = go (ltb 0 n) refl
    where
      z : size_in (read_hex t) ≡ n
      z = sym c.rest ∙ ap (plus n) (left-none left h) ∙ add-zero n

      go : (b : Bool) → ltb 0 n ≡ b → then_some b n ≡ counted (read_hex t)
      go true e = sym (counted-some (pairs t) (omega (arith, z, ltb-true 0 n e)) ∙ ap (λ (m : ℕ). Some m) z)
      go false e = sym (counted-none (pairs t) (omega (arith, z, ltb-false 0 n e)))

-- ---- the second pass

-- n octets of a text are laid over the front of `before`, and those of what is left of it are to come
pub record Laying (t before out left : List ℕ) (n : ℕ) : Type 0 where
  pub front : List ℕ
  pub to_come : List ℕ
  pub whole : octets_in (read_hex t) ≡ front ++ to_come
  pub size : length front ≡ n
  pub room : n + length to_come ≤ length before
  pub rest : pairs left ≡ octets to_come
  pub laid : out ≡ over 0 front before

-- the two digits in front, x and y, and the room for their octet
pub record Pair (before : List ℕ) (n x y : ℕ) : Type 0 where
  pub high : digit x ≡ true
  pub low : digit y ≡ true
  pub room : n < length before

some-octets : (r : Read) → 1 ≤ size_in (some r) → r ≡ octets (octets_in (some r))
some-octets (octets []) h = absurd (omega arith)
some-octets (octets (b ∷ bs)) h = refl
some-octets other h = absurd (omega arith)

pub lay-start : {t before : List ℕ} → 1 ≤ size_in (read_hex t) → size_in (read_hex t) ≤ length before → Laying t before before t 0
lay-start {t} {before} h k = record {
  front = [];
  to_come = octets_in (read_hex t);
  whole = refl;
  size = refl;
  room = omega arith;
  rest = some-octets (pairs t) h;
  laid = sym (over-nil 0 before);
}

-- a pair before octets is one of them
onto-octets : (b : ℕ) (r : Read) (cs : List ℕ) → onto b r ≡ octets cs → (ds : List ℕ) × (r ≡ octets ds) × (cs ≡ b ∷ ds)
onto-octets b (octets ds) cs e = (ds, refl, cc)
onto-octets b other cs e = let z : ◌≡◌ {A = ℕ} 0 1 = cc in absurd (omega arith)

module _ {t before out : List ℕ} {n : ℕ} where
  pub lay-separator : (left : List ℕ) → Laying t before out left n → 1 ≤ length left → separator (get_or left 0 0) ≡ true → Laying t before out (rest_of left) n
  lay-separator [] l h s = absurd (omega arith)
  lay-separator (x ∷ r) l h s =
      rw (rest-cons x r) (record {
        front = l.front;
        to_come = l.to_come;
        whole = l.whole;
        size = l.size;
        room = l.room;
        rest = sym (pairs-separator x r s) ∙ l.rest;
        laid = l.laid;
      })

  never : {P : Type 0} {left : List ℕ} → Laying t before out left n → pairs left ≡ other → P
  never l e = let f = l.rest in let z : ◌≡◌ {A = ℕ} 0 1 = cc in absurd (omega arith)

  -- one digit does not stand alone
  pub lay-single : {left : List ℕ} → Laying t before out left n → 1 ≤ length left → separator (get_or left 0 0) ≡ false → length (rest_of left) < 1 → ⊥
  lay-single {left} l h s k = never l (left-single left h k s)

  -- the octet of two digits in front is the next
  first-to-come : {x y : ℕ} {r : List ℕ} (l : Laying t before out (x ∷ y ∷ r) n) → separator x ≡ false → digit x ≡ true → digit y ≡ true
      → (ds : List ℕ) × (pairs r ≡ octets ds) × (l.to_come ≡ octet x y ∷ ds)
  first-to-come {x} {y} {r} l s d e = onto-octets (octet x y) (pairs r) l.to_come (sym (pairs-pair x y r s d e) ∙ l.rest)

  pub lay-digits : (left : List ℕ) → 1 ≤ length left → 1 ≤ length (rest_of left) → Laying t before out left n → separator (get_or left 0 0) ≡ false
      → Pair before n (get_or left 0 0) (get_or (rest_of left) 0 0)
  lay-digits = by-two (λ left x r y. Laying t before out left n → separator x ≡ false → Pair before n x y) both
    where
      both : (x y : ℕ) (r : List ℕ) → Laying t before out (x ∷ y ∷ r) n → separator x ≡ false → Pair before n x y
      both x y r l s = go (digit x) refl (digit y) refl
        where
          go : (b : Bool) → digit x ≡ b → (c : Bool) → digit y ≡ c → Pair before n x y
          go false q c e = never l (pairs_first x y r s q)
          go true q false e = never l (pairs-second x y r s q e)
          go true q true e =
              let o = first-to-come l s q e in
              let m : length l.to_come ≡ suc (length o.0) = ap length o.2 in
              record { high = q; low = e; room = omega (arith, l.room) }

  pub lay-pair : (left : List ℕ) → 1 ≤ length left → 1 ≤ length (rest_of left) → Laying t before out left n
      → Pair before n (get_or left 0 0) (get_or (rest_of left) 0 0) → separator (get_or left 0 0) ≡ false
      → Laying t before (set out n (value (get_or left 0 0) * 16 + value (get_or (rest_of left) 0 0))) (rest_of (rest_of left)) (n + 1)
  lay-pair =
      by-two (λ left x r y. Laying t before out left n → Pair before n x y → separator x ≡ false
      → Laying t before (set out n (value x * 16 + value y)) r (n + 1)) next
    where
      next : (x y : ℕ) (r : List ℕ) → Laying t before out (x ∷ y ∷ r) n → Pair before n x y → separator x ≡ false
          → Laying t before (set out n (value x * 16 + value y)) r (n + 1)
      next x y r l p s =
          let b : ℕ = octet x y in
          let o = first-to-come l s p.high p.low in
          let m : length l.to_come ≡ suc (length o.0) = ap length o.2 in
          let e : 0 + length l.front ≡ n = zero-add (length l.front) ∙ l.size in
          record {
            front = l.front ++ (b ∷ []);
            to_come = o.0;
            whole = l.whole ∙ ap (λ (m : List ℕ). l.front ++ m) o.2 ∙ sym (append_snoc l.front b o.0);
            size = simp length-append (omega (arith, l.size));
            room = omega (arith, l.room);
            rest = o.1;
            laid = ap (λ (m : List ℕ). set m n b) l.laid ∙ (rw e at (over-push 0 b l.front before (rw e p.room)));
          }

  pub lay_done : {left : List ℕ} → Laying t before out left n → length left < 1 → Wrote 0 (octets_in (read_hex t)) before n out
  lay_done {left} l h =
      let f : l.to_come ≡ [] = cc (left-none left h, l.rest) in
      let g : octets_in (read_hex t) ≡ l.front = l.whole ∙ ap (λ (m : List ℕ). l.front ++ m) f ∙ append-nil l.front in
      let e : length (octets_in (read_hex t)) ≡ n = ap length g ∙ l.size in
      record { room = omega (arith, l.room); next = omega arith; laid = l.laid ∙ ap (λ (m : List ℕ). over 0 m before) (sym g) }
