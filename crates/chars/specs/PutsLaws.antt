-- The laws of writes that stop where their buffer ends: they keep its length, and one after another is one of both. Assumes nothing.
use Rattle.std.specs.Prelude.{◌≡◌, refl, Bool, true, false, List, [], ◌∷◌, ◌++◌, ℕ, ◌+◌, ◌-◌, ◌≤◌, ◌<◌, min, leb, length, get_or, take, set}
use Rattle.std.proofs.Common.{sym, ap, subst, ◌∙◌, append-nil, add-one, arith, leb-true, leb-false, length-take, length-append, take_all, take-suc}
use Rattle.std.proofs.Math.Seq.{take-nil, take-append-add}
use Rattle.std.proofs.lemmas.List.{take-append-le}
use Rattle.octets.specs.Over.{over}
use Rattle.octets.specs.OverLaws.{over-nil, over-length, over-over, over-set}
use Rattle.chars.specs.Puts.{Puts}

-- where i is 0 nothing is taken
pub take-none : (i : ℕ) (s : List ℕ) → i ≡ 0 → take i s ≡ []
take-none i s z = ap (λ (n : ℕ). take n s) z

-- what is taken of two lists one after another
take-both : (n : ℕ) (a b : List ℕ) → take n (a ++ b) ≡ take n a ++ take (n - length a) b
take-both n a b = go (leb n (length a)) refl
  where
    go : (t : Bool) → leb n (length a) ≡ t → take n (a ++ b) ≡ take n a ++ take (n - length a) b
    go true t =
        let h : n ≤ length a = leb-true _ _ t in
        let none : n - length a ≡ 0 = omega arith in
        take-append-le n a b h ∙ sym (ap (λ (i : ℕ). take n a ++ take i b) none ∙ append-nil (take n a))
    go false t =
        let h : length a < n = leb-false _ _ t in
        let size : n ≡ length a + (n - length a) = omega arith in
        ap (λ (i : ℕ). take i (a ++ b)) size
        ∙ take-append-add a b (n - length a)
        ∙ ap (λ (x : List ℕ). x ++ take (n - length a) b) (sym (take_all n a (omega arith)))

-- ---- the numbers of two writes: of a octets from `at` on, and then of b, in a buffer of n

module _ (at a n : ℕ) where
  second_from : min (min (at + a) n) n ≡ min at n + min (n - at) a
  second_from = omega arith

  second-left : n - min (at + a) n ≡ n - at - a
  second-left = omega arith

  second-next : (b : ℕ) → min (min (at + a) n + b) n ≡ min (at + (a + b)) n
  second-next b = omega arith

  second-room : (b : ℕ) → min at n + min (n - at) a + min (n - at - a) b ≤ n
  second-room b = omega arith

-- what is written has room
puts-room : (at : ℕ) (bs l : List ℕ) → min at (length l) + length (take (length l - at) bs) ≤ length l
puts-room at bs l = omega (arith, length-take (length l - at) bs)

-- ---- writes

pub puts-length : {at r : ℕ} {bs l l' : List ℕ} → Puts at bs l r l' → length l' ≡ length l
puts-length {at} {r} {bs} {l} {l'} p = ap length p.laid ∙ over-length (min at (length l)) (take (length l - at) bs) l (puts-room at bs l)

pub puts-within : {at r : ℕ} {bs l l' : List ℕ} → Puts at bs l r l' → r ≤ length l'
puts-within p = omega (arith, p.next, puts-length p)

-- nothing is written
pub puts_none : (at : ℕ) (l : List ℕ) {r : ℕ} → r ≡ min at (length l) → Puts at [] l r l
puts_none at l {r} e =
    record {
      next = omega arith;
      laid = sym (ap (λ (bs : List ℕ). over (min at (length l)) bs l) (take-nil (length l - at)) ∙ over-nil (min at (length l)) l);
    }

-- past the end nothing is written
pub puts-past : (at : ℕ) (bs l : List ℕ) → length l ≤ at → Puts at bs l (length l) l
puts-past at bs l h =
    let none : length l - at ≡ 0 = omega arith in
    record {
      next = omega arith;
      laid = sym (ap (λ (n : ℕ). over (min at (length l)) (take n bs) l) none ∙ over-nil (min at (length l)) l);
    }

-- a store is a write of one octet
pub puts_one : (at b : ℕ) (l : List ℕ) → at < length l → Puts at (b ∷ []) l (at + 1) (set l at b)
puts_one at b l h =
    let here : min at (length l) ≡ at = omega arith in
    let all : take (length l - at) (b ∷ []) ≡ b ∷ [] = take_all (length l - at) (b ∷ []) (omega arith) in
    record {
      next = omega arith;
      laid = over-set at b l h ∙ sym (ap (λ (i : ℕ). over i (take (length l - at) (b ∷ [])) l) here ∙ ap (λ (bs : List ℕ). over at bs l) all);
    }

-- one write after another is one write of both
pub puts_then : {at r r' : ℕ} {a b l l' l'' : List ℕ} → Puts at a l r l' → Puts r b l' r' l'' → Puts at (a ++ b) l r' l''
puts_then {at} {r} {r'} {a} {b} {l} {l'} {l''} p q =
    let n : ℕ = length l in
    let k : ℕ = n - at in
    let m : ℕ = min at n in
    let same : length l' ≡ n = puts-length p in
    let first : length (take k a) ≡ min k (length a) = length-take k a in
    let from : min r (length l') ≡ m + length (take k a) =
    ap (λ (i : ℕ). min r i) same ∙ ap (λ (i : ℕ). min i n) p.next ∙ second_from at (length a) n ∙ ap (λ (i : ℕ). m + i) (sym first) in
    let left : length l' - r ≡ k - length a =
    ap (λ (i : ℕ). i - r) same ∙ ap (λ (i : ℕ). n - i) p.next ∙ second-left at (length a) n in
    let room : m + length (take k a) + length (take (k - length a) b) ≤ n =
    rw (first, length-take (k - length a) b) (second-room at (length a) n (length b)) in
    let next : r' ≡ min (at + length (a ++ b)) n =
    q.next ∙ ap (λ (i : ℕ). min (r + length b) i) same ∙ ap (λ (i : ℕ). min (i + length b) n) p.next ∙ second-next at (length a) n (length b)
    ∙ ap (λ (i : ℕ). min (at + i) n) (sym (length-append a b)) in
    record {
      next = next;
      laid = q.laid
          ∙ ap (λ (i : ℕ). over i (take (length l' - r) b) l') from
          ∙ ap (λ (i : ℕ). over (m + length (take k a)) (take i b) l') left
          ∙ ap (λ (x : List ℕ). over (m + length (take k a)) (take (k - length a) b) x) p.laid
          ∙ over-over m (take k a) (take (k - length a) b) l room
          ∙ ap (λ (bs : List ℕ). over m bs l) (sym (take-both k a b));
    }

-- the same octets in another form
pub puts-as : {at r : ℕ} {a b l l' : List ℕ} → a ≡ b → Puts at a l r l' → Puts at b l r l'
puts-as {at} {r} {a} {b} {l} {l'} e p = subst (λ (x : List ℕ). Puts at x l r l') e p

-- one octet more of a list that is written from its front on
pub puts-more : {at r r' : ℕ} (i : ℕ) (s : List ℕ) {l l' l'' : List ℕ} → i < length s → Puts at (take i s) l r l' → Puts r (get_or s i 0 ∷ []) l' r' l''
    → Puts at (take (i + 1) s) l r' l''
puts-more i s h p q = puts-as (sym (rw (add-one i) (take-suc s i 0 h))) (puts_then p q)
