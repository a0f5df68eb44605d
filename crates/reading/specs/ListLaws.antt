-- Laws of the octets of a list's elements, one after another. Assumes nothing.
use Rattle.std.specs.Prelude.{◌≡◌, refl, List, [], ◌∷◌, ◌++◌, ℕ, suc, ◌+◌, ◌≤◌, ◌<◌, length, get_or, take, drop}
use Rattle.std.proofs.Common.{ap, ◌∙◌, ⊎_elim, append-nil, add-one, arith, length-append, take-suc}
use Rattle.std.proofs.Math.Seq.{split_at}
use Rattle.octets.specs.ListsLaws.{flat_map_append}
use Rattle.order.specs.Order.{ins, stable_sort}
use Rattle.order.specs.OrderLaws.{le-or-lt, ins-ahead, ins-past}
use Rattle.reading.specs.Walks.{laid}

module _ {A : Type 0} (f : A → List ℕ) where
  -- those of the first i and of the next
  pub laid_next : (d : A) (l : List A) (i : ℕ) → i < length l → laid f (take (i + 1) l) ≡ laid f (take i l) ++ f (get_or l i d)
  laid_next d l i h =
      ap (λ (n : ℕ). laid f (take n l)) (add-one i)
      ∙ ap (laid f) (take-suc l i d h)
      ∙ flat_map_append f (take i l) (get_or l i d ∷ [])
      ∙ ap (λ (r : List ℕ). laid f (take i l) ++ r) (append-nil (f (get_or l i d)))

  pub laid-room : (d : A) (l : List A) (i : ℕ) → i < length l → length (laid f (take i l)) + length (f (get_or l i d)) ≤ length (laid f l)
  laid-room d l i h =
      let e : laid f l ≡ laid f (take i l) ++ (f (get_or l i d) ++ laid f (drop (suc i) l)) =
      ap (laid f) (split_at l i d h) ∙ flat_map_append f (take i l) (get_or l i d ∷ drop (suc i) l) in
      omega (arith, ap length e, length-append (laid f (take i l)) (f (get_or l i d) ++ laid f (drop (suc i) l)), length-append (f (get_or l i d)) (laid f (drop (suc i) l)))

  module _ (key : A → ℕ) where
    ins-laid : (x : A) (l : List A) → length (laid f (ins key x l)) ≡ length (f x) + length (laid f l)
    ins-laid x [] = length-append (f x) []
    ins-laid x (y ∷ ys) =
        ⊎_elim
        (λ q. rw (ins-ahead key x y ys q) (length-append (f x) (laid f (y ∷ ys))))
        (λ q. rw (ins-past key x y ys q) (omega (arith, length-append (f y) (laid f (ins key x ys)), ins-laid x ys, length-append (f y) (laid f ys))))
        (le-or-lt (key x) (key y))

    -- the order does not change how many octets there are
    pub sort-laid : (l : List A) → length (laid f (stable_sort key l)) ≡ length (laid f l)
    sort-laid [] = refl
    sort-laid (x ∷ xs) = omega (arith, ins-laid x (stable_sort key xs), sort-laid xs, length-append (f x) (laid f xs))
