-- The laws of octets laid over a list, and how writes compose. Assumes nothing.
use Rattle.std.specs.Prelude.{◌≡◌, refl, List, [], ◌∷◌, ◌++◌, ℕ, suc, ◌+◌, ◌-◌, ◌≤◌, ◌<◌, length, get_or, take, drop, set}
use Rattle.std.proofs.Common.{sym, ap, ◌∙◌, append_assoc, append-nil, add-zero, add_assoc, add-one, arith, length-append, length-take, length-drop, take-append-drop, take-take, take_all, take-suc, take_at, drop_at, drop-drop, length-take-le}
use Rattle.std.proofs.lemmas.List.{take-append-le, set_split}
use Rattle.std.proofs.lemmas.Slice.{put_mid-paste}
use borrow.Rule.Slice.PartMut.{put_mid}
use Rattle.octets.specs.Over.{over, Wrote}

-- nothing laid over a list leaves it
pub over-nil : (at : ℕ) (l : List ℕ) → over at [] l ≡ l
unfolding over
over-nil at l = simp (add-zero, append-nil, take-append-drop)

-- how long what stands before the rest is
head-length : (at : ℕ) (bs l : List ℕ) → at + length bs ≤ length l → length (take at l ++ bs) ≡ at + length bs
head-length at bs l h = simp (length-append, length-take) (omega arith)

-- where the bytes fit, the list keeps its length
pub over-length : (at : ℕ) (bs l : List ℕ) → at + length bs ≤ length l → length (over at bs l) ≡ length l
unfolding over
over-length at bs l h = simp (length-append, length-take, length-drop) (omega arith)

-- and where they leave its length, they fit it
pub over-fits : (bs l : List ℕ) → length (over 0 bs l) ≡ length l → length bs ≤ length l
unfolding over
over-fits bs l e = omega (arith, simp (length-append, length-take, length-drop) at e)

-- what is laid over the front stands there
pub over-front : (bs l : List ℕ) → take (length bs) (over 0 bs l) ≡ bs
unfolding over
over-front bs l = take_at bs (drop (0 + length bs) l) (length bs) refl

-- nothing past them is changed
pub over-past : (bs l : List ℕ) → drop (length bs) (over 0 bs l) ≡ drop (length bs) l
unfolding over
over-past bs l =
    let e : 0 + length bs ≡ length bs = omega arith in
    drop_at bs (drop (0 + length bs) l) (length bs) refl ∙ ap (λ (n : ℕ). drop n l) e

-- what is laid just after a is laid with a
pub over-over : (at : ℕ) (a b l : List ℕ) → at + length a + length b ≤ length l → over (at + length a) b (over at a l) ≡ over at (a ++ b) l
unfolding over
over-over at a b l h =
    let fits : at + length a ≤ length l = omega arith in
    let head : length (take at l ++ a) ≡ at + length a = head-length at a l fits in
    let front : take (at + length a) (take at l ++ a ++ drop (at + length a) l) ≡ take at l ++ a = take_at (take at l ++ a) (drop (at + length a) l) (at + length a) head in
    let back : drop (at + length a + length b) (take at l ++ a ++ drop (at + length a) l) ≡ drop (at + length (a ++ b)) l =
    sym (drop-drop (length b) (at + length a) (take at l ++ a ++ drop (at + length a) l))
    ∙ ap (λ (r : List ℕ). drop (length b) r) (drop_at (take at l ++ a) (drop (at + length a) l) (at + length a) head)
    ∙ drop-drop (length b) (at + length a) l
    ∙ ap (λ (n : ℕ). drop n l) (add_assoc at (length a) (length b) ∙ ap (λ (n : ℕ). at + n) (sym (length-append a b))) in
    rw (front, back, append_assoc (take at l) a b)

-- a store is one byte laid over
pub over-set : (at v : ℕ) (l : List ℕ) → at < length l → set l at v ≡ over at (v ∷ []) l
unfolding over
over-set at v l h =
    set_split l at v h ∙ sym (append_assoc (take at l) (v ∷ []) (drop (suc at) l)) ∙ ap (λ (n : ℕ). take at l ++ (v ∷ []) ++ drop n l) (sym (add-one at))

-- a store just after what is laid
pub over-push : (at v : ℕ) (a l : List ℕ) → at + length a < length l → set (over at a l) (at + length a) v ≡ over at (a ++ (v ∷ [])) l
over-push at v a l h =
    let fits : at + length a ≤ length l = omega arith in
    let in-l : at + length a < length (over at a l) = rw (over-length at a l fits) h in
    over-set (at + length a) v (over at a l) in-l ∙ over-over at a (v ∷ []) l (omega arith)

pub wrote_none : {at : ℕ} {l : List ℕ} → at ≤ length l → Wrote at [] l at l
wrote_none {at} {l} h = record { room = omega arith; next = sym (add-zero at); laid = sym (over-nil at l) }

-- one write after another is one write of both
pub then : {at r r' : ℕ} {a b l l' l'' : List ℕ} → Wrote at a l r l' → Wrote r b l' r' l'' → Wrote at (a ++ b) l r' l''
then {at} {r} {r'} {a} {b} {l} {l'} {l''} w v =
    let same : length l' ≡ length l = ap length w.laid ∙ over-length at a l w.room in
    let room : at + length a + length b ≤ length l = omega (arith, v.room, w.next) in
    record {
      room = simp length-append (omega arith);
      next = simp length-append (omega (arith, w.next, v.next));
      laid = v.laid ∙ ap (λ (n : ℕ). over n b l') w.next ∙ ap (λ (m : List ℕ). over (at + length a) b m) w.laid ∙ over-over at a b l room;
    }

-- two stores side by side
pub over-two : (at x y : ℕ) (l : List ℕ) → at + 2 ≤ length l → set (set l at x) (at + 1) y ≡ over at (x ∷ y ∷ []) l
over-two at x y l h = ap (λ (m : List ℕ). set m (at + 1) y) (over-set at x l (omega arith)) ∙ over-push at y (x ∷ []) l (omega arith)

-- a turn of a loop that copies s: the store of its next byte
pub over-take : (at j : ℕ) (s l : List ℕ) → at + j < length l → j < length s → set (over at (take j s) l) (at + j) (get_or s j 0) ≡ over at (take (j + 1) s) l
over-take at j s l h k =
    let e : length (take j s) ≡ j = length-take-le j s (omega arith) in
    rw (add-one j, take-suc s j 0 k) (rw e at (over-push at (get_or s j 0) (take j s) l (rw e h)))

-- what is laid just before b is laid with b: a part that is written after what follows it, as a length
pub over-before : (at : ℕ) (a b l : List ℕ) → at + length a + length b ≤ length l → over at a (over (at + length a) b l) ≡ over at (a ++ b) l
unfolding over
over-before at a b l h =
    let m : ℕ = at + length a in
    let rest : List ℕ = drop (m + length b) l in
    let le : length (take m l) ≡ m = length-take-le m l (omega arith) in
    let whole : take m l ++ b ++ rest ≡ take m l ++ (b ++ rest) = append_assoc (take m l) b rest in
    let front : take at (take m l ++ (b ++ rest)) ≡ take at l = take-append-le at (take m l) (b ++ rest) (omega arith) ∙ take-take at m l (omega arith) in
    let back : drop m (take m l ++ (b ++ rest)) ≡ b ++ rest = drop_at (take m l) (b ++ rest) m le in
    let size : m + length b ≡ at + length (a ++ b) = simp length-append (omega arith) in
    ap (λ (x : List ℕ). take at x ++ a ++ drop m x) whole
    ∙ ap (λ (x : List ℕ). x ++ a ++ drop m (take m l ++ (b ++ rest))) front
    ∙ ap (λ (x : List ℕ). take at l ++ a ++ x) back
    ∙ sym (append_assoc (take at l ++ a) b rest)
    ∙ ap (λ (x : List ℕ). x ++ rest) (append_assoc (take at l) a b)
    ∙ ap (λ (n : ℕ). take at l ++ (a ++ b) ++ drop n l) size

-- a write just before another is one write of both, which ends where the later part ends
pub before : {at m r r' : ℕ} {a b l l' l'' : List ℕ} → m ≡ at + length a → Wrote m b l r l' → Wrote at a l' r' l'' → Wrote at (a ++ b) l r l''
before {at} {m} {r} {r'} {a} {b} {l} {l'} {l''} e w v =
    let room : at + length a + length b ≤ length l = omega (arith, w.room) in
    record {
      room = simp length-append (omega arith);
      next = simp length-append (omega (arith, w.next));
      laid = v.laid ∙ ap (λ (x : List ℕ). over at a x) (w.laid ∙ ap (λ (n : ℕ). over n b l) e) ∙ over-before at a b l room;
    }

-- what stands behind octets that are laid over others is as before
pub over-behind : (at k : ℕ) (bs l : List ℕ) → at + length bs ≤ length l → at + length bs ≤ k → drop k (over at bs l) ≡ drop k l
unfolding over
over-behind at k bs l h e =
    let n : ℕ = at + length bs in
    let split : n + (k - n) ≡ k = omega arith in
    let back : (m : List ℕ) → drop (k - n) (drop n m) ≡ drop k m = λ m. drop-drop (k - n) n m ∙ ap (λ (i : ℕ). drop i m) split in
    sym (back (take at l ++ bs ++ drop n l)) ∙ ap (λ (m : List ℕ). drop (k - n) m) (drop_at (take at l ++ bs) (drop n l) n (head-length at bs l h)) ∙ back l

-- what is laid over as much or less from the same index hides it
over-cover : (at : ℕ) (a b l : List ℕ) → length a ≤ length b → at + length b ≤ length l → over at b (over at a l) ≡ over at b l
unfolding over
over-cover at a b l h f =
    let whole : take at l ++ a ++ drop (at + length a) l ≡ take at l ++ (a ++ drop (at + length a) l) = append_assoc (take at l) a (drop (at + length a) l) in
    let front : take at (take at l ++ a ++ drop (at + length a) l) ≡ take at l =
    ap (λ (x : List ℕ). take at x) whole ∙ take_at (take at l) (a ++ drop (at + length a) l) at (length-take-le at l (omega arith)) in
    let back : drop (at + length b) (take at l ++ a ++ drop (at + length a) l) ≡ drop (at + length b) l = over-behind at (at + length b) a l (omega arith) (omega arith) in
    rw (front, back)

-- what is laid from the k-th octet of a on, to the end of a or farther, leaves the first k of a
over-again : (at k : ℕ) (a b l : List ℕ) → k ≤ length a → length a ≤ k + length b → at + k + length b ≤ length l
    → over (at + k) b (over at a l) ≡ over at (take k a ++ b) l
over-again at k a b l h e f =
    let size : length (take k a) ≡ k = length-take-le k a h in
    let rest : length (drop k a) ≡ length a - k = length-drop k a in
    let split : over at a l ≡ over (at + k) (drop k a) (over at (take k a) l) =
    ap (λ (x : List ℕ). over at x l) (sym (take-append-drop k a)) ∙ sym (over-over at (take k a) (drop k a) l (omega arith))
    ∙ ap (λ (j : ℕ). over (at + j) (drop k a) (over at (take k a) l)) size in
    let long : length (over at (take k a) l) ≡ length l = over-length at (take k a) l (omega arith) in
    ap (λ (x : List ℕ). over (at + k) b x) split
    ∙ over-cover (at + k) (drop k a) b (over at (take k a) l) (omega arith) (omega arith)
    ∙ ap (λ (j : ℕ). over (at + j) b (over at (take k a) l)) (sym size)
    ∙ over-over at (take k a) b l (omega arith)

-- the first i octets of s are written, and then those from the k-th on: where k is at most i, that is the whole of s, though some are written twice
pub reaching-back : {at r m r' : ℕ} (i k : ℕ) (s : List ℕ) {l l' l'' : List ℕ} → k ≤ i → i ≤ length s → m ≡ at + k → Wrote at (take i s) l r l'
    → Wrote m (drop k s) l' r' l'' → Wrote at s l r' l''
reaching-back {at} {r} {m} {r'} i k s {l} {l'} {l''} h e q w v =
    let first : length (take i s) ≡ i = length-take-le i s e in
    let last : length (drop k s) ≡ length s - k = length-drop k s in
    let same : length l' ≡ length l = ap length w.laid ∙ over-length at (take i s) l w.room in
    let room : at + k + length (drop k s) ≤ length l = omega (arith, v.room) in
    let all : take k (take i s) ++ drop k s ≡ s = ap (λ (x : List ℕ). x ++ drop k s) (take-take k i s h) ∙ take-append-drop k s in
    record {
      room = omega arith;
      next = omega (arith, v.next);
      laid = v.laid ∙ ap (λ (n : ℕ). over n (drop k s) l') q ∙ ap (λ (x : List ℕ). over (at + k) (drop k s) x) w.laid
          ∙ over-again at k (take i s) (drop k s) l (omega arith) (omega arith) room ∙ ap (λ (x : List ℕ). over at x l) all;
    }

-- octets laid at the front of a buffer are the front of it
pub wrote-front : {n : ℕ} {bs l l' : List ℕ} → Wrote 0 bs l n l' → take n l' ≡ bs
unfolding over
wrote-front {n} {bs} {l} {l'} w = ap (λ (x : List ℕ). take n x) w.laid ∙ take_at bs (drop (0 + length bs) l) n (omega (arith, w.next))

-- s is copied into the part of l that stands from `at` on, k octets, and x is that part then
pub wrote_part : (at k : ℕ) (s l x : List ℕ) → at + length s ≤ length l → length s ≡ k → x ≡ s → Wrote at s l (at + length s) (put_mid at k l x)
unfolding over
wrote_part at k s l x h e q =
    let all : take (length s) s ≡ s = take_all (length s) s (omega arith) in
    record { room = h; next = refl; laid = put_mid-paste at k l x s (length s) q e refl ∙ rw all }
