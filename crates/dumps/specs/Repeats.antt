-- Octets that are laid again one by one are copies of a line. Assumes nothing.
use Rattle.std.specs.Prelude.{◌≡◌, refl, List, [], ◌∷◌, ◌++◌, ℕ, zero, suc, ◌+◌, ◌-◌, ◌*◌, ◌/◌, ◌%◌, ◌≤◌, ◌<◌, length, get_or, set, take, drop}
use Rattle.std.proofs.Common.{sym, ap, ◌∙◌, append-nil, append_assoc, zero-add, add-zero, zero-mul, add-one, arith, length-append, length-drop, length-set, take-append-drop, take-suc-set, get_or-take, length-take-le}
use Rattle.std.proofs.Math.Nat.{mod-add-div'}
use Rattle.std.proofs.Math.Seq.{append_snoc, get_or-append_seam}
use Rattle.dumps.specs.Dumps.{repeated_of}
use Rattle.dumps.specs.Shows.{times}

-- k octets more, each the one at `from`, and further on
unfoldable more : ℕ → ℕ → List ℕ → List ℕ
more zero from l = l
more (suc k) from l = more k (from + 1) (l ++ (get_or l from 0 ∷ []))

repeated-more : (k from n : ℕ) (out : List ℕ) → from < n → n + k ≤ length out → take (n + k) (repeated_of k from n out) ≡ more k from (take n out)
unfolding repeated_of more
repeated-more zero from n out h j = ap (λ (i : ℕ). take i out) (add-zero n)
repeated-more (suc k) from n out h j =
    let e : n + suc k ≡ n + 1 + k = omega arith in
    let l : n + 1 + k ≤ length (set out n (get_or out from 0)) = simp length-set (omega arith) in
    let g : take (n + 1) (set out n (get_or out from 0)) ≡ take n out ++ (get_or out from 0 ∷ []) =
    ap (λ (i : ℕ). take i (set out n (get_or out from 0))) (add-one n) ∙ take-suc-set out n (get_or out from 0) (omega arith)
    in
    ap (λ (i : ℕ). take i (repeated_of k (from + 1) (n + 1) (set out n (get_or out from 0)))) e
    ∙ repeated-more k (from + 1) (n + 1) (set out n (get_or out from 0)) (omega arith) l
    ∙ ap (more k (from + 1)) (g ∙ ap (λ (y : ℕ). take n out ++ (y ∷ [])) (sym (get_or-take n out from 0 h)))

more-add : (j k from : ℕ) (l : List ℕ) → more (j + k) from l ≡ more k (from + j) (more j from l)
unfolding more
more-add zero k from l = ap (λ (i : ℕ). more i from l) (zero-add k) ∙ ap (λ (i : ℕ). more k i l) (sym (add-zero from))
more-add (suc j) k from l =
    let e : suc j + k ≡ suc (j + k) = omega arith in
    let g : from + 1 + j ≡ from + suc j = omega arith in
    ap (λ (i : ℕ). more i from l) e
    ∙ more-add j k (from + 1) (l ++ (get_or l from 0 ∷ []))
    ∙ ap (λ (i : ℕ). more k i (more j (from + 1) (l ++ (get_or l from 0 ∷ [])))) g

-- as many as a part of the list has are a copy of that part
more-part : (u w r : List ℕ) → more (length w) (length u) (u ++ (w ++ r)) ≡ u ++ (w ++ (r ++ w))
unfolding more
more-part u [] r = ap (λ (l : List ℕ). u ++ l) (sym (append-nil r))
more-part u (x ∷ w) r =
    let e : length u + 1 ≡ length (u ++ (x ∷ [])) = simp length-append refl in
    let a : get_or (u ++ (x ∷ (w ++ r))) (length u) 0 ≡ x = get_or-append_seam u x (w ++ r) 0 in
    let b : u ++ (x ∷ (w ++ r)) ++ (x ∷ []) ≡ u ++ (x ∷ []) ++ (w ++ (r ++ (x ∷ []))) =
    append_assoc u (x ∷ (w ++ r)) (x ∷ [])
    ∙ ap (λ (l : List ℕ). u ++ (x ∷ l)) (append_assoc w r (x ∷ []))
    ∙ sym (append_snoc u x (w ++ (r ++ (x ∷ []))))
    in
    ap (λ (y : ℕ). more (length w) (length u + 1) (u ++ (x ∷ (w ++ r)) ++ (y ∷ []))) a
    ∙ ap (more (length w) (length u + 1)) b
    ∙ ap (λ (i : ℕ). more (length w) i (u ++ (x ∷ []) ++ (w ++ (r ++ (x ∷ []))))) e
    ∙ more-part (u ++ (x ∷ [])) w (r ++ (x ∷ []))
    ∙ append_snoc u x (w ++ (r ++ (x ∷ []) ++ w))
    ∙ ap (λ (l : List ℕ). u ++ (x ∷ (w ++ l))) (append_snoc r x w)

more-times : (k : ℕ) (u w : List ℕ) → more (k * length w) (length u) (u ++ w) ≡ u ++ w ++ times k w
unfolding more
more-times zero u w = ap (λ (i : ℕ). more i (length u) (u ++ w)) (zero-mul (length w)) ∙ sym (append-nil (u ++ w))
more-times (suc k) u w =
    let e : suc k * length w ≡ length w + k * length w = omega arith in
    let p : more (length w) (length u) (u ++ w) ≡ u ++ w ++ w =
    ap (λ (l : List ℕ). more (length w) (length u) (u ++ l)) (sym (append-nil w)) ∙ more-part u w [] ∙ sym (append_assoc u w w)
    in
    ap (λ (i : ℕ). more i (length u) (u ++ w)) e
    ∙ more-add (length w) (k * length w) (length u) (u ++ w)
    ∙ ap (more (k * length w) (length u + length w)) p
    ∙ ap (λ (i : ℕ). more (k * length w) i (u ++ w ++ w)) (sym (length-append u w))
    ∙ more-times k (u ++ w) w
    ∙ append_assoc (u ++ w) w (times k w)

-- k + 1 lines that are laid again are copies of the last
pub copies_as : (from n v k : ℕ) (out : List ℕ) → from < n → n < v → v ≤ length out → v - n ≡ suc k * (n - from)
    → take v (repeated_of (v - n) from n out) ≡ take n out ++ times (suc k) (drop from (take n out))
copies_as from n v k out h j l e =
    let a : length (take n out) ≡ n = length-take-le n out (omega arith) in
    let w : length (drop from (take n out)) ≡ n - from = length-drop from (take n out) ∙ ap (λ (i : ℕ). i - from) a in
    let u : length (take from (take n out)) ≡ from = length-take-le from (take n out) (omega arith) in
    let s : take from (take n out) ++ drop from (take n out) ≡ take n out = take-append-drop from (take n out) in
    let t : n + (v - n) ≡ v = omega arith in
    let c : v - n ≡ suc k * length (drop from (take n out)) = e ∙ ap (λ (i : ℕ). suc k * i) (sym w) in
    ap (λ (i : ℕ). take i (repeated_of (v - n) from n out)) (sym t)
    ∙ repeated-more (v - n) from n out h (omega arith)
    ∙ ap (λ (i : ℕ). more i from (take n out)) c
    ∙ ap (λ (i : ℕ). more (suc k * length (drop from (take n out))) i (take n out)) (sym u)
    ∙ ap (more (suc k * length (drop from (take n out))) (length (take from (take n out)))) (sym s)
    ∙ more-times (suc k) (take from (take n out)) (drop from (take n out))
    ∙ ap (λ (o : List ℕ). o ++ times (suc k) (drop from (take n out))) s

copies-number : (a d : ℕ) → 0 < a → a % d ≡ 0 → (k : ℕ) × (a ≡ suc k * d)
copies-number a d j e = go (a / d) (sym (mod-add-div' a d) ∙ ap (λ (r : ℕ). r + a / d * d) e ∙ zero-add (a / d * d))
  where
    go : (q : ℕ) → a ≡ q * d → (k : ℕ) × (a ≡ suc k * d)
    go zero p = let z : a ≡ 0 = p ∙ zero-mul d in absurd (omega arith)
    go (suc k) p = (k, p)

-- the octets that stars stand for are copies of the last line
pub record Copies (from n v : ℕ) (out : List ℕ) : Type 0 where
  pub number : ℕ
  pub is : take v (repeated_of (v - n) from n out) ≡ take n out ++ times (suc number) (drop from (take n out))

pub copies : (from n v : ℕ) (out : List ℕ) → from < n → n < v → v ≤ length out → (v - n) % (n - from) ≡ 0 → Copies from n v out
copies from n v out h j l e =
    let k = copies-number (v - n) (n - from) (omega arith) e in
    record { number = k.0; is = copies_as from n v k.0 out h j l k.1 }

-- so many octets have copies
pub length-times : (k : ℕ) (l : List ℕ) → length (times k l) ≡ k * length l
length-times zero l = sym (zero-mul (length l))
length-times (suc k) l = length-append l (times k l) ∙ ap (λ (i : ℕ). length l + i) (length-times k l) ∙ omega arith
