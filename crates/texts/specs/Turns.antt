-- The loops of the two conversions: what holds at each turn, and that it holds at the start, after each turn and gives the whole at
-- the end. Assumes nothing.
use Rattle.std.specs.Prelude.{◌≡◌, refl, take}
use Rattle.std.proofs.Math.Path.{sym, ap}
use Rattle.std.proofs.Common.{◌∙◌, add-zero, arith, length-take, length-drop, drop-cons, drop-drop, get_or-drop, get_or-take, take_all, drop-set-lt, set-set}
use mathlib.Core.List.{List, [], ◌∷◌}
use Prim.Native.Nat.{ℕ, zero, suc, ◌+◌, ◌-◌, ◌≤◌, ◌<◌}
use Rattle.std.proofs.Math.Numerals.{add-one}
use Rattle.std.proofs.Math.ListN.{length, get_or, drop, set, length-set}
use Rattle.std.proofs.Math.Seq.{drop-length}
use Rattle.std.proofs.lemmas.List.{take-set-le}
use borrow.Author.Tests.{eq-eqb, ne_eqb}
use Rattle.octets.specs.Over.{over, Wrote}
use Rattle.octets.specs.OverLaws.{over-nil, over-set, over-length, over-before, over-take}
use Rattle.texts.specs.Texts.{run, wire_from, wire_of, dots_from, text_of}
use Rattle.texts.specs.Convert.{run_short, from-length, wire-length, text-length}

one_more : (s : List ℕ) (i : ℕ) → i < length s → drop i s ≡ get_or s i 0 ∷ drop (i + 1) s
one_more s i h = rw (add-one, drop-cons s i 0)

-- ---- from a text's end to its front

-- the octets of t from i on stand in wire form from at + 1 + i on, and `label` of them end the label that i is in
pub record Wired (at : ℕ) (t l l' : List ℕ) (i label : ℕ) : Type 0 where
  pub within : i ≤ length t
  pub counted : label ≡ run (drop i t)
  pub laid : l' ≡ over (at + 1 + i) (wire_from (drop i t)) l

-- an octet v before octets that stand from m + 1 on
store-before : (m v : ℕ) (b l : List ℕ) → m + 1 + length b ≤ length l → set (over (m + 1) b l) m v ≡ over m (v ∷ b) l
store-before m v b l h =
    let k : m < length (over (m + 1) b l) = rw (over-length (m + 1) b l h) (omega arith) in
    over-set m v (over (m + 1) b l) k ∙ over-before m (v ∷ []) b l h

-- the root octet at the end of the wire form of t
abbrev rooted : ℕ → List ℕ → List ℕ → List ℕ
rooted at t l = set l (at + 1 + length t) 0

-- what is laid over the root octet hides that it stood there before
over-rooted : (at : ℕ) (t l : List ℕ) → over at (wire_of t) (rooted at t l) ≡ over at (wire_of t) l
unfolding over
over-rooted at t l =
    let n = wire-length t in
    rw (take-set-le at l (at + 1 + length t) 0 (omega arith), drop-set-lt (at + length (wire_of t)) l (at + 1 + length t) 0 (omega arith))

module _ {at : ℕ} {t : List ℕ} where
  pub wire-start : (l : List ℕ) → at + length t + 2 ≤ length l → Wired at t (rooted at t l) (rooted at t l) (length t) 0
  unfolding run wire_from
  wire-start l room =
      let j : ℕ = at + 1 + length t in
      let k : j < length (set l j 0) = simp length-set (omega arith) in
      record {
        within = omega arith;
        counted = rw drop-length;
        laid = rw drop-length (sym (set-set l j 0 0) ∙ over-set j 0 (set l j 0) k);
      }

module _ {at : ℕ} {t l : List ℕ} (room : at + length t + 2 ≤ length l) where
  module _ {l' : List ℕ} {i label : ℕ} (w : Wired at t l l' i label) where
    pub label_small : label ≤ length t - i
    label_small = let h = run_short (drop i t) in let c = w.counted in let d = length-drop i t in omega arith

    -- the octet at j is stored as v
    stored : (j v : ℕ) → j + 1 ≡ i → set l' (at + 1 + j) v ≡ over (at + 1 + j) (v ∷ wire_from (drop (j + 1) t)) l
    stored j v e =
        let b = w.within in
        let n = from-length (drop (j + 1) t) in
        let d = length-drop (j + 1) t in
        let f : at + 1 + i ≡ at + 1 + j + 1 = omega arith in
        let m : l' ≡ over (at + 1 + j + 1) (wire_from (drop (j + 1) t)) l = w.laid ∙ rw (f, e) in
        ap (λ (m : List ℕ). set m (at + 1 + j) v) m
        ∙ store-before (at + 1 + j) v (wire_from (drop (j + 1) t)) l (omega arith)

    pub wire-dot : (j : ℕ) → j + 1 ≡ i → get_or t j 0 ≡ 46 → Wired at t l (set l' (at + 1 + j) label) j 0
    unfolding run wire_from
    wire-dot j e q =
        let b = w.within in
        let s : drop j t ≡ get_or t j 0 ∷ drop (j + 1) t = one_more t j (omega arith) in
        record {
          within = omega arith;
          counted = rw (s, eq-eqb (get_or t j 0) 46 q);
          laid = rw (s, eq-eqb (get_or t j 0) 46 q) (stored j label e ∙ ap (λ (v : ℕ). over (at + 1 + j) (v ∷ wire_from (drop (j + 1) t)) l) (w.counted ∙ rw e));
        }

    pub wire-octet : (j : ℕ) → j + 1 ≡ i → (get_or t j 0 ≡ 46 → ⊥) → Wired at t l (set l' (at + 1 + j) (get_or t j 0)) j (label + 1)
    unfolding run wire_from
    wire-octet j e q =
        let b = w.within in
        let s : drop j t ≡ get_or t j 0 ∷ drop (j + 1) t = one_more t j (omega arith) in
        record {
          within = omega arith;
          counted = rw (s, ne_eqb (get_or t j 0) 46 q, add-one label) (ap suc (w.counted ∙ rw e));
          laid = rw (s, ne_eqb (get_or t j 0) 46 q) (stored j (get_or t j 0) e);
        }

    pub wire-done : (o : List ℕ) → l ≡ rooted at t o → i ≡ 0 → Wrote at (wire_of t) o (at + 1 + length t + 1) (set l' at label)
    unfolding wire_of
    wire-done o e z =
        let n = from-length t in
        let k : length l ≡ length o = ap length e ∙ length-set o (at + 1 + length t) 0 in
        let m : l' ≡ over (at + 1) (wire_from t) l = w.laid ∙ rw (z, add-zero) in
        let r : label ≡ run t = w.counted ∙ rw z in
        let h : set l' at label ≡ over at (wire_of t) l = rw (m, r) (store-before at (run t) (wire_from t) l (omega arith)) in
        record {
          room = omega arith;
          next = omega arith;
          laid = h ∙ ap (λ (q : List ℕ). over at (wire_of t) q) e ∙ over-rooted at t o;
        }

-- ---- from a wire form's front to its end

-- the octets between the first length octet and the root
abbrev body : List ℕ → List ℕ
body w = take (length w - 2) (drop 1 w)

-- i octets of the text of w stand from `at` on, and `left` octets of the label at hand are to come
pub record Texted (at : ℕ) (w l l' : List ℕ) (i left : ℕ) : Type 0 where
  pub within : i ≤ length w - 2
  pub to_come : dots_from left (drop i (body w)) ≡ drop i (text_of w)
  pub laid : l' ≡ over at (take i (text_of w)) l

body_at : (w : List ℕ) (i : ℕ) → i < length w - 2 → drop i (body w) ≡ get_or w (i + 1) 0 ∷ drop (i + 1) (body w)
body_at w i h =
    let k : i < length (body w) = simp (length-take, length-drop) (omega arith) in
    let e : get_or (body w) i 0 ≡ get_or w (i + 1) 0 = get_or-take (length w - 2) (drop 1 w) i 0 h ∙ get_or-drop 1 w i 0 ∙ ap (λ (n : ℕ). get_or w n 0) (omega arith) in
    one_more (body w) i k ∙ rw e

dots-octet : (k x : ℕ) (xs : List ℕ) → (k ≡ 0 → ⊥) → dots_from k (x ∷ xs) ≡ x ∷ dots_from (k - 1) xs
unfolding dots_from
dots-octet zero x xs n = absurd (n refl)
dots-octet (suc k) x xs n = let e : k ≡ suc k - 1 = omega arith in ap (λ (j : ℕ). x ∷ dots_from j xs) e

-- where a list goes on with x, x stands there
here : (s xs : List ℕ) (i x : ℕ) → x ∷ xs ≡ drop i s → x ≡ get_or s i 0
here s xs i x e = ap (λ (l : List ℕ). get_or l 0 0) e ∙ get_or-drop i s 0 0 ∙ rw add-zero

onward : (s xs : List ℕ) (i x : ℕ) → x ∷ xs ≡ drop i s → xs ≡ drop (i + 1) s
onward s xs i x e = ap (λ (l : List ℕ). drop 1 l) e ∙ drop-drop 1 i s

module _ {at : ℕ} {w l : List ℕ} (room : at + (length w - 2) ≤ length l) where
  pub text-start : Texted at w l l 0 (get_or w 0 0)
  unfolding text_of
  text-start = record { within = omega arith; to_come = refl; laid = sym (over-nil at l) }

  module _ {l' : List ℕ} {i left : ℕ} (t : Texted at w l l' i left) where
    -- one octet more
    next : (x k : ℕ) → i < length w - 2 → x ∷ dots_from k (drop (i + 1) (body w)) ≡ drop i (text_of w) → Texted at w l (set l' (at + i) x) (i + 1) k
    next x k h e =
        let n = text-length w in
        record {
          within = omega arith;
          to_come = onward (text_of w) (dots_from k (drop (i + 1) (body w))) i x e;
          laid =
              ap (λ (m : List ℕ). set m (at + i) x) t.laid
              ∙ ap (λ (v : ℕ). set (over at (take i (text_of w)) l) (at + i) v) (here (text_of w) (dots_from k (drop (i + 1) (body w))) i x e)
              ∙ over-take at i (text_of w) l (omega arith) (omega arith);
        }

    pub text-dot : i < length w - 2 → left ≡ 0 → Texted at w l (set l' (at + i) 46) (i + 1) (get_or w (i + 1) 0)
    unfolding dots_from
    text-dot h z = next 46 (get_or w (i + 1) 0) h (sym (rw (z, body_at w i h)) ∙ t.to_come)

    pub text-octet : i < length w - 2 → (left ≡ 0 → ⊥) → Texted at w l (set l' (at + i) (get_or w (i + 1) 0)) (i + 1) (left - 1)
    text-octet h z =
        let x : ℕ = get_or w (i + 1) 0 in
        next x (left - 1) h (sym (rw (body_at w i h) (dots-octet left x (drop (i + 1) (body w)) z)) ∙ t.to_come)

    pub text-done : length w - 2 ≤ i → Wrote at (text_of w) l (at + (length w - 2)) l'
    text-done h =
        let n = text-length w in
        record { room = omega arith; next = rw n; laid = t.laid ∙ rw (take_all i (text_of w) (omega arith)) }
