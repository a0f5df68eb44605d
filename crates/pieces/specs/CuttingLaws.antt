-- The laws of joined octets cut within a buffer: what stands behind a write is left alone, and the turns of the loop that writes the
-- options. Assumes nothing.
use Rattle.std.specs.Prelude.{◌≡◌, refl, List, [], ◌∷◌, ◌++◌, ℕ, zero, suc, ◌+◌, ◌-◌, ◌≤◌, ◌<◌, min, length, take, drop}
use Rattle.std.proofs.Common.{sym, ap, ◌∙◌, subst, append_assoc, append-nil, arith, length-take, length-drop, drop_of_length-le, drop-drop, take-take}
use Rattle.octets.specs.ListsLaws.{drop-take}
use Rattle.octets.specs.Over.{Wrote}
use Rattle.octets.specs.OverLaws.{wrote_none, then, over-behind}
use Rattle.carriers.specs.declared.Carrier.TheVariants.{Dhcp4}
use Rattle.frames.specs.Emit.{head_of, option_of}
use Rattle.frames.proofs.EmitLaws.{option-length}
use Rattle.pieces.specs.Pieces.{cut_of, cut_octets}
use Rattle.pieces.specs.PiecesLaws.{cut-none, cut_step}
use Rattle.pieces.specs.Cutting.{Cutting}

-- ---- what stands behind a write

pub wrote-behind : {at r : ℕ} {bs l l' : List ℕ} (k : ℕ) → Wrote at bs l r l' → r ≤ k → drop k l' ≡ drop k l
wrote-behind {at} {r} {bs} {l} {l'} k w h = ap (λ (m : List ℕ). drop k m) w.laid ∙ over-behind at k bs l w.room (omega (arith, w.next))

-- ---- an option, by its header and its body

-- the body stood in the same buffer, behind the header
pub piece-written : (from n : ℕ) {at k r : ℕ} {l l₁ l₂ : List ℕ} → from + n ≤ length l → k ≤ from → Wrote at (head_of Dhcp4 n) l k l₁
    → Wrote k (take n (drop from l₁)) l₁ r l₂ → Wrote at (option_of Dhcp4 (take n (drop from l))) l r l₂
piece-written from n {at} {k} {r} {l} {l₁} {l₂} h e x y =
    let behind : drop from l₁ ≡ drop from l = wrote-behind from x e in
    let size : n ≡ length (take n (drop from l)) = simp (length-take, length-drop) (omega arith) in
    subst (λ (m : ℕ). Wrote at (head_of Dhcp4 m ++ take n (drop from l)) l r l₂) size (then x (rw behind at y))

-- ---- what is left

-- no more is taken or dropped than there is
take_same : (m n : ℕ) (l : List ℕ) → n ≡ min m (length l) → take m l ≡ take n l
take_same zero zero l e = refl
take_same zero (suc n) l e = absurd (omega arith)
take_same (suc m) zero [] e = refl
take_same (suc m) zero (x ∷ xs) e = absurd (omega arith)
take_same (suc m) (suc n) [] e = absurd (omega arith)
take_same (suc m) (suc n) (x ∷ xs) e = ap (λ (r : List ℕ). x ∷ r) (take_same m n xs (omega arith))

drop-same : (m n : ℕ) (l : List ℕ) → n ≡ min m (length l) → drop m l ≡ drop n l
drop-same zero zero l e = refl
drop-same zero (suc n) l e = absurd (omega arith)
drop-same (suc m) zero [] e = refl
drop-same (suc m) zero (x ∷ xs) e = absurd (omega arith)
drop-same (suc m) (suc n) [] e = absurd (omega arith)
drop-same (suc m) (suc n) (x ∷ xs) e = drop-same m n xs (omega arith)

-- what is left of j from i on, with an option of n octets in front
cut-turn : (j : List ℕ) (i n : ℕ) → i < length j → n ≡ min 255 (length j - i) → cut_of (drop i j) ≡ option_of Dhcp4 (take n (drop i j)) ++ cut_of (drop (i + n) j)
cut-turn j i n h e =
    let d : length (drop i j) ≡ length j - i = length-drop i j in
    let k : n ≡ min 255 (length (drop i j)) = omega arith in
    cut_step (drop i j) (omega arith)
    ∙ ap (λ (t : List ℕ). option_of Dhcp4 t ++ cut_of (drop 255 (drop i j))) (take_same 255 n (drop i j) k)
    ∙ ap (λ (d : List ℕ). option_of Dhcp4 (take n (drop i j)) ++ cut_of d) (drop-same 255 n (drop i j) k ∙ drop-drop n i j)

-- k of n elements from an index, after i of them
part_of : (from n i k : ℕ) (l : List ℕ) → i + k ≤ n → take k (drop i (take n (drop from l))) ≡ take k (drop (from + i) l)
part_of from n i k l h =
    ap (λ (m : List ℕ). take k m) (drop-take i n (drop from l)) ∙ take-take k (n - i) (drop i (drop from l)) (omega arith)
    ∙ ap (λ (m : List ℕ). take k m) (drop-drop i from l)

-- ---- the turns of the loop that writes the options

module _ {from n : ℕ} {out₀ : List ℕ} {i o : ℕ} {out : List ℕ} (k : ℕ) (is : k ≡ min 255 (n - i)) (c : Cutting from n out₀ i o out) (more : i < n) where
  -- the header of the next option has room before the octets to come
  pub cutting-room : o + 2 ≤ from + i
  cutting-room = omega (arith, c.room)

  -- and these stand as they stood
  cutting-body : take k (drop (from + i) out) ≡ take k (drop i (take n (drop from out₀)))
  cutting-body =
      ap (λ (m : List ℕ). take k m) (wrote-behind (from + i) c.wrote (omega (arith, cutting-room)))
      ∙ sym (part_of from n i k out₀ (omega arith))

  cutting-whole : from + n ≤ length out₀ → cut_of (take n (drop from out₀))
      ≡ (c.passed ++ option_of Dhcp4 (take k (drop (from + i) out))) ++ cut_of (drop (i + k) (take n (drop from out₀)))
  cutting-whole h =
      let j : List ℕ = take n (drop from out₀) in
      let size : length j ≡ n = simp (length-take, length-drop) (omega arith) in
      c.whole ∙ ap (λ (r : List ℕ). c.passed ++ r) (cut-turn j i k (omega arith) (omega arith))
      ∙ sym (append_assoc c.passed (option_of Dhcp4 (take k (drop i j))) (cut_of (drop (i + k) j)))
      ∙ ap (λ (b : List ℕ). (c.passed ++ option_of Dhcp4 b) ++ cut_of (drop (i + k) j)) (sym cutting-body)

  -- the next option, written
  pub cutting-turn : {o' : ℕ} {out' : List ℕ} → from + n ≤ length out₀ → Wrote o (option_of Dhcp4 (take k (drop (from + i) out))) out o' out'
      → length out' ≡ length out → Cutting from n out₀ (i + k) o' out'
  cutting-turn h w l =
      let b : List ℕ = take k (drop (from + i) out) in
      let size : length b ≡ k = simp (length-take, length-drop) (omega (arith, c.same)) in
      record {
        passed = c.passed ++ option_of Dhcp4 b;
        within = omega arith;
        wrote = then c.wrote w;
        whole = cutting-whole h;
        room = omega (arith, c.room, w.next, option-length Dhcp4 b);
        same = l ∙ c.same;
      }

pub cutting-start : {from n : ℕ} {out₀ : List ℕ} → from + n ≡ cut_octets n → Cutting from n out₀ 0 0 out₀
cutting-start h = record { passed = []; within = omega arith; wrote = wrote_none (omega arith); whole = refl; room = omega arith; same = refl }

pub cutting-done : {from n : ℕ} {out₀ : List ℕ} {i o : ℕ} {out : List ℕ} → Cutting from n out₀ i o out → n ≤ i → Wrote 0 (cut_of (take n (drop from out₀))) out₀ o out
cutting-done {from} {n} {out₀} {i} {o} {out} c h =
    let j : List ℕ = take n (drop from out₀) in
    let size : length j ≤ i = simp length-take (omega arith) in
    let e : cut_of j ≡ c.passed = c.whole ∙ rw (drop_of_length-le j size, cut-none) (append-nil c.passed) in
    rw e c.wrote
