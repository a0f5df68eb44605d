-- The laws of C strings: the closing octet after what was written, and the words of every number, which are visible and fit. Assumes nothing.
use Rattle.std.specs.Prelude.{◌≡◌, refl, Bool, true, false, cond, ◌&&◌, List, [], ◌∷◌, ◌++◌, ℕ, zero, suc, ◌+◌, ◌-◌, ◌≤◌, ◌<◌, min, eqb, leb, ltb, length, take, drop, set}
use Rattle.std.proofs.Common.{sym, ap, ◌∙◌, append_assoc, arith, leb-true, leb-false, ltb-true, length-take, length-append, take_all, take-take, length-take-le}
use Rattle.std.proofs.Math.Bool.{and-eq-true_iff}
use Rattle.std.proofs.lemmas.List.{set_split, take-append-le}
use Rattle.octets.specs.Over.{over}
use Rattle.octets.specs.OverLaws.{over-nil, over-behind, over-length}
use Rattle.chars.specs.Puts.{Puts}
use Rattle.chars.specs.PutsLaws.{puts-length}
use Rattle.words.specs.Words.{Worded, table, unknown, words_in, words_of}
use Rattle.words.specs.Strings.{c_string, PutsString, visible, max_words}

-- ---- the closing octet

-- a store at the end of what is laid over the front of a list, or on its last octet
over-close : (k v : ℕ) (a l : List ℕ) → k ≤ length a → length a ≤ suc k → length a ≤ length l → k < length l
    → set (over 0 a l) k v ≡ over 0 (take k a ++ (v ∷ [])) l
unfolding over
over-close k v a l h e f g =
    let size : length (take k a) ≡ k = length-take-le k a h in
    let long : length (over 0 a l) ≡ length l = over-length 0 a l (omega arith) in
    let front : take k (over 0 a l) ≡ take k a = take-append-le k a (drop (0 + length a) l) h in
    let back : drop (suc k) (over 0 a l) ≡ drop (suc k) l = over-behind 0 (suc k) a l (omega arith) (omega arith) in
    let past : suc k ≡ 0 + length (take k a ++ (v ∷ [])) = simp length-append (omega arith) in
    set_split (over 0 a l) k v (omega arith)
    ∙ ap (λ (x : List ℕ). x ++ (v ∷ drop (suc k) (over 0 a l))) front
    ∙ ap (λ (x : List ℕ). take k a ++ (v ∷ x)) (back ∙ ap (λ (n : ℕ). drop n l) past)
    ∙ sym (append_assoc (take k a) (v ∷ []) (drop (0 + length (take k a ++ (v ∷ []))) l))

-- a C string in a room of n octets, if it has any
has_room : (n : ℕ) (text : List ℕ) → 0 < n → c_string n text ≡ take (n - 1) text ++ (0 ∷ [])
unfolding c_string
has_room zero text h = absurd (omega arith)
has_room (suc n) text h =
    let e : n ≡ suc n - 1 = omega arith in
    ap (λ (i : ℕ). take i text ++ (0 ∷ [])) e

-- what of a text stands before the closing octet, of what was cut at the room
cut-before : (n : ℕ) (text : List ℕ) → take (min (length text) (n - 1)) (take n text) ≡ take (n - 1) text
cut-before n text = go (leb (length text) (n - 1)) refl
  where
    go : (b : Bool) → leb (length text) (n - 1) ≡ b → take (min (length text) (n - 1)) (take n text) ≡ take (n - 1) text
    go true t =
        let h : length text ≤ n - 1 = leb-true _ _ t in
        let all : min (length text) (n - 1) ≡ length text = omega arith in
        ap (λ (i : ℕ). take i (take n text)) all
        ∙ take-take (length text) n text (omega arith)
        ∙ take_all (length text) text (omega arith)
        ∙ sym (take_all (n - 1) text h)
    go false t =
        let h : n - 1 < length text = leb-false _ _ t in
        let least : min (length text) (n - 1) ≡ n - 1 = omega arith in
        ap (λ (i : ℕ). take i (take n text)) least ∙ take-take (n - 1) n text (omega arith)

-- where the closing octet of a text of t octets stands in a room of n
closing_at : (t n : ℕ) → min (min (0 + t) n) (n - 1) ≡ min t (n - 1)
closing_at t n = omega arith

-- where there is no room, nothing is written
pub string-none : (text l : List ℕ) → length l ≡ 0 → PutsString text l 0 l
unfolding c_string
string-none text l e =
    record {
      size = omega arith;
      laid = sym (ap (λ (n : ℕ). over 0 (c_string n text) l) e ∙ over-nil 0 l);
    }

-- the octet 0 stored there closes what was laid over the front as far as there is room
close : (text l : List ℕ) (k : ℕ) → 0 < length l → k ≡ min (length text) (length l - 1)
    → set (over 0 (take (length l) text) l) k 0 ≡ over 0 (c_string (length l) text) l
close text l k h e =
    let n : ℕ = length l in
    let cut : length (take n text) ≡ min n (length text) = length-take n text in
    over-close k 0 (take n text) l (omega arith) (omega arith) (omega arith) (omega arith)
    ∙ ap (λ (i : ℕ). over 0 (take i (take n text) ++ (0 ∷ [])) l) e
    ∙ ap (λ (x : List ℕ). over 0 (x ++ (0 ∷ [])) l) (cut-before n text)
    ∙ ap (λ (x : List ℕ). over 0 x l) (sym (has_room n text h))

-- a text is written as far as there is room, and then an octet 0 behind it, or on the last octet
pub string-closed : (text l : List ℕ) {r k : ℕ} {l' : List ℕ} → 0 < length l → Puts 0 text l r l' → k ≡ min r (length l' - 1)
    → PutsString text l k (set l' k 0)
string-closed text l {r} {k} {l'} h p e =
    let n : ℕ = length l in
    let size : k ≡ min (length text) (n - 1) =
    e ∙ ap (λ (i : ℕ). min r (i - 1)) (puts-length p) ∙ ap (λ (i : ℕ). min i (n - 1)) p.next ∙ closing_at (length text) n in
    let none : min 0 n ≡ 0 = omega arith in
    let room : n - 0 ≡ n = omega arith in
    record {
      size = size;
      laid = ap (λ (x : List ℕ). set x k 0) p.laid
          ∙ ap (λ (i : ℕ). set (over i (take (n - 0) text) l) k 0) none
          ∙ ap (λ (i : ℕ). set (over 0 (take i text) l) k 0) room
          ∙ close text l k h size;
    }

-- ---- the words of every number

-- what holds of all words of a table and of those that say that a number is unknown
unfoldable all : (List ℕ → Bool) → List Worded → Bool
all p [] = p unknown
all p (w ∷ ws) = p w.words && all p ws

holds : (p : List ℕ → Bool) (ws : List Worded) (k : ℕ) → all p ws ≡ true → p (words_in ws k) ≡ true
unfolding all words_in
holds p [] k f = f
holds p (w ∷ ws) k f =
    let q = (and-eq-true_iff (p w.words) (all p ws)).0 f in
    go (eqb w.number k) q.0 (holds p ws k q.1)
  where
    go : (b : Bool) → p w.words ≡ true → p (words_in ws k) ≡ true → p (cond b w.words (words_in ws k)) ≡ true
    go true here there = here
    go false here there = there

-- they leave room for a closing octet
pub words-fit : (k : ℕ) → length (words_of k) < max_words
unfolding table all
words-fit k = ltb-true _ _ (holds (λ x. ltb (length x) max_words) table k refl)

-- and are visible
pub words-visible : (k : ℕ) → visible (words_of k) ≡ true
unfolding table all visible
words-visible k = holds visible table k refl

-- so with that room, or more, a caller in C is given all of them
pub words-whole : (k room : ℕ) → max_words ≤ room → c_string room (words_of k) ≡ words_of k ++ (0 ∷ [])
unfolding c_string
words-whole k zero h = absurd (omega arith)
words-whole k (suc n) h = ap (λ (x : List ℕ). x ++ (0 ∷ [])) (take_all n (words_of k) (omega (arith, words-fit k)))
