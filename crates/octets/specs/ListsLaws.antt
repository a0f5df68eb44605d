-- The laws of `All` and `flat`, of parts of a list, and of walks that first skip some elements. Assumes nothing.
use Rattle.std.specs.Prelude.{◌≡◌, refl, List, [], ◌∷◌, ◌++◌, map, ℕ, zero, suc, ◌+◌, ◌*◌, ◌-◌, ◌≤◌, ◌<◌, ltb, length, get_or, take, drop}
use Rattle.std.proofs.Common.{sym, ap, ◌∙◌, subst, append_assoc, arith, ltb-true, ltb-false, length-append, length-drop, drop_of_length-le, take_all, drop-drop, take_at, drop_at}
use Rattle.std.proofs.lemmas.List.{map-append, take-append-le, drop-append-le}
use Rattle.std.proofs.Math.Numerals.{unary_clauses}
use Rattle.std.proofs.Math.Seq.{take-nil, drop-append-add}
use Rattle.octets.specs.Cases.{by-test}
use Rattle.octets.specs.Lists.{All, flat, Stands}

module _ {A : Type 0} where
  -- a part that goes to the end
  pub take_rest : (k : ℕ) (l : List A) → take (length l - k) (drop k l) ≡ drop k l
  take_rest k l = take_all (length l - k) (drop k l) (rw length-drop (omega arith))

  -- what is left of n elements after i
  pub drop-take : (i n : ℕ) (l : List A) → drop i (take n l) ≡ take (n - i) (drop i l)
  drop-take zero n l = simp unary_clauses
  drop-take (suc i) zero l = let none : 0 - suc i ≡ 0 = omega arith in rw none
  drop-take (suc i) (suc n) [] = simp take-nil
  drop-take (suc i) (suc n) (x ∷ xs) = simp unary_clauses (drop-take i n xs)

  -- lists of one length before what follows them are found again
  pub part_apart : (a b x y : List A) → length a ≡ length b → a ++ x ≡ b ++ y → (a ≡ b) × (x ≡ y)
  part_apart a b x y e q = (
    sym (take_at a x (length a) refl) ∙ ap (take (length a)) q ∙ take_at b y (length a) (sym e),
    sym (drop_at a x (length a) refl) ∙ ap (drop (length a)) q ∙ drop_at b y (length a) (sym e),
  )

  pub flat_append : (ls ms : List (List A)) → flat (ls ++ ms) ≡ flat ls ++ flat ms
  flat_append [] ms = refl
  flat_append (l ∷ ls) ms = ap (λ (m : List A). l ++ m) (flat_append ls ms) ∙ sym (append_assoc l (flat ls) (flat ms))

  pub flat_map_append : {B : Type 0} (f : B → List A) (l m : List B) → flat (map f (l ++ m)) ≡ flat (map f l) ++ flat (map f m)
  flat_map_append f l m = ap flat (map-append f l m) ∙ flat_append (map f l) (map f m)

  pub all_append : (P : A → Type 0) (l m : List A) → All P l → All P m → All P (l ++ m)
  all_append P [] m h k = k
  all_append P (x ∷ xs) m h k = (h.0, all_append P xs m h.1 k)

  pub all_left : (P : A → Type 0) (l m : List A) → All P (l ++ m) → All P l
  all_left P [] m h = tt
  all_left P (x ∷ xs) m h = (h.0, all_left P xs m h.1)

  pub all_right : (P : A → Type 0) (l m : List A) → All P (l ++ m) → All P m
  all_right P [] m h = h
  all_right P (x ∷ xs) m h = all_right P xs m h.1

  pub all_take : (P : A → Type 0) (k : ℕ) (l : List A) → All P l → All P (take k l)
  all_take P zero l h = tt
  all_take P (suc k) [] h = tt
  all_take P (suc k) (x ∷ xs) h = (h.0, all_take P k xs h.1)

  pub all_drop : (P : A → Type 0) (k : ℕ) (l : List A) → All P l → All P (drop k l)
  all_drop P zero l h = h
  all_drop P (suc k) [] h = tt
  all_drop P (suc k) (x ∷ xs) h = all_drop P k xs h.1

  pub all_map : (P Q : A → Type 0) (l : List A) → ((x : A) → P x → Q x) → All P l → All Q l
  all_map P Q [] f h = tt
  all_map P Q (x ∷ xs) f h = (f x h.0, all_map P Q xs f h.1)

  pub all-flat : (P : A → Type 0) (ls : List (List A)) → All (All P) ls → All P (flat ls)
  all-flat P [] h = tt
  all-flat P (l ∷ ls) h = all_append P l (flat ls) h.0 (all-flat P ls h.1)

  -- what holds of every element holds at each index
  pub all-at : (P : A → Type 0) (d : A) (l : List A) → All P l → (i : ℕ) → i < length l → P (get_or l i d)
  all-at P d [] h i k = absurd (omega arith)
  all-at P d (x ∷ xs) h zero k = h.0
  all-at P d (x ∷ xs) h (suc i) k = all-at P d xs h.1 i (omega arith)

  -- lists of at most m elements each, one after another
  pub flat-few : {B : Type 0} (f : A → List B) (P : A → Type 0) (m : ℕ) (l : List A) → ((x : A) → P x → length (f x) ≤ m) → All P l
      → length (flat (map f l)) ≤ length l * m
  flat-few f P m [] each h = omega arith
  flat-few f P m (x ∷ l) each h = omega (arith, length-append (f x) (flat (map f l)), each x h.0, flat-few f P m l each h.1)

-- a walk F over a list, with so many elements still to be skipped
module _ {A R : Type 0} (F : ℕ → List A → R) (step : (k : ℕ) (x : A) (xs : List A) → F (suc k) (x ∷ xs) ≡ F k xs) where
  -- it goes on behind them where they are there
  pub skip-within : (k : ℕ) (l : List A) → k ≤ length l → F k l ≡ F 0 (drop k l)
  skip-within zero l h = refl
  skip-within (suc k) [] h = absurd (omega arith)
  skip-within (suc k) (x ∷ xs) h = step k x xs ∙ skip-within k xs (omega arith)

  -- and answers r where they are not, if that is its answer at the end
  pub skip-past : {r : R} → ((k : ℕ) → F (suc k) [] ≡ r) → (k : ℕ) (l : List A) → length l < k → F k l ≡ r
  skip-past end zero l h = absurd (omega arith)
  skip-past end (suc k) [] h = end k
  skip-past end (suc k) (x ∷ xs) h = step k x xs ∙ skip-past end k xs (omega arith)

  -- so it always goes on behind them if it ends alike with elements to be skipped and with none
  pub skip-any : ((k : ℕ) → F (suc k) [] ≡ F 0 []) → (k : ℕ) (l : List A) → F k l ≡ F 0 (drop k l)
  skip-any end k l =
      by-test (ltb (length l) k) (λ _. F k l ≡ F 0 (drop k l))
      (λ t. let h : length l < k = ltb-true _ _ t in skip-past end k l h ∙ ap (F 0) (sym (drop_of_length-le l {i = k} (omega arith))))
      (λ t. skip-within k l (ltb-false _ _ t))

-- ---- what stands in a list

-- x stands where what is left begins with it, and what follows it stands further on by its octets
module _ (x l b : List ℕ) (i : ℕ) (e : drop i b ≡ x ++ l) where
  pub stands-begins : Stands x i b
  stands-begins = ap (take (length x)) e ∙ take_at x l (length x) refl

  pub drop-onward : (n : ℕ) → length x ≡ n → drop (i + n) b ≡ l
  drop-onward n h = sym (drop-drop n i b) ∙ ap (drop n) e ∙ drop_at x l n h

pub stands_at : (x b : List ℕ) {i j : ℕ} → i ≡ j → Stands x i b → Stands x j b
stands_at x b e h = subst (λ (k : ℕ). Stands x k b) e h

-- what stands in a part stands in the whole, further on by what is before the part
pub stands-within : (front x part rest : List ℕ) (i : ℕ) → i + length x ≤ length part → Stands x i part → Stands x (length front + i) (front ++ (part ++ rest))
stands-within front x part rest i h s =
    let less : i ≤ length part = omega arith in
    let past : drop (length front + i) (front ++ (part ++ rest)) ≡ drop i part ++ rest =
    drop-append-add front (part ++ rest) i ∙ drop-append-le i part rest less in
    let room : length x ≤ length (drop i part) = rw (length-drop i part) (omega arith) in
    ap (take (length x)) past ∙ take-append-le (length x) (drop i part) rest room ∙ s
