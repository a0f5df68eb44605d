-- The laws of a list that a loop writes item by item: what is written, what is left, and what stands before the next item. Assumes nothing.
use Rattle.std.specs.Prelude.{◌≡◌, refl, Bool, true, false, List, [], ◌∷◌, ◌++◌, map, ℕ, ◌<◌, min, eqb, length}
use Rattle.std.proofs.Common.{sym, ap, ◌∙◌, append_assoc, append-nil, arith, ne_eqb}
use Rattle.std.proofs.lemmas.List.{map-append}
use Rattle.octets.specs.Lists.{flat}
use Rattle.octets.specs.ListsLaws.{flat_map_append}
use Rattle.ips.specs.Ips.{led}
use Rattle.chars.specs.Puts.{Puts}
use Rattle.chars.specs.PutsLaws.{puts_none, puts_then, puts-as}
use Rattle.values.specs.Values.{comma, list_of, before_of}

-- ---- one item more

-- whether no item stands before
abbrev opens : {A : Type 0} → List A → Bool
opens [] = true
opens (x ∷ xs) = false

led-more : (xs : List (List ℕ)) (x : List ℕ) → led comma xs ++ (comma ∷ x) ≡ led comma (xs ++ (x ∷ []))
led-more [] x = ap (λ (l : List ℕ). comma ∷ l) (sym (append-nil x))
led-more (y ∷ xs) x = ap (λ (l : List ℕ). comma ∷ l) (append_assoc y (led comma xs) (comma ∷ x) ∙ ap (λ (l : List ℕ). y ++ l) (led-more xs x))

list-more : {A : Type 0} (text : A → List ℕ) (commas : Bool) (xs : List A) (x : A)
    → list_of commas (map text xs) ++ (before_of commas (opens xs) ++ text x) ≡ list_of commas (map text (xs ++ (x ∷ [])))
list-more text true [] x = sym (append-nil (text x))
list-more text false [] x = sym (append-nil (text x))
list-more text true (y ∷ xs) x =
    append_assoc (text y) (led comma (map text xs)) (comma ∷ text x)
    ∙ ap (λ (l : List ℕ). text y ++ l) (led-more (map text xs) (text x) ∙ ap (led comma) (sym (map-append text xs (x ∷ []))))
list-more text false (y ∷ xs) x =
    ap (λ (l : List ℕ). flat (map text (y ∷ xs)) ++ l) (sym (append-nil (text x)))
    ∙ sym (flat_map_append text (y ∷ xs) (x ∷ []))

-- ---- a loop

-- of the items `all` those before `left` are written from `at` on, and `before` stands before the next
pub record Listed {A : Type 0} (commas : Bool) (text : A → List ℕ) (all left : List A) (before : List ℕ) (at : ℕ) (l : List ℕ) (r : ℕ) (l' : List ℕ) : Type 0 where
  pub done : List A
  pub whole : all ≡ done ++ left
  pub open_is : before ≡ before_of commas (opens done)
  pub wrote : Puts at (list_of commas (map text done)) l r l'

nothing : (commas : Bool) → list_of commas [] ≡ []
nothing true = refl
nothing false = refl

some : {A : Type 0} (xs : List A) (x : A) → opens (xs ++ (x ∷ [])) ≡ false
some [] x = refl
some (y ∷ xs) x = refl

module _ {A : Type 0} (commas : Bool) (text : A → List ℕ) {at : ℕ} {l : List ℕ} where
  pub listed_start : (all : List A) {r : ℕ} → r ≡ min at (length l) → Listed commas text all all [] at l r l
  listed_start all e = record { done = []; whole = refl; open_is = refl; wrote = puts-as (sym (nothing commas)) (puts_none at l e) }

  module _ {all left : List A} {before : List ℕ} {r : ℕ} {l' : List ℕ} (d : Listed commas text all left before at l r l') where
    pub listed_next : {x : A} {rest : List A} {later : List ℕ} {r' : ℕ} {l'' : List ℕ} → left ≡ x ∷ rest → later ≡ before_of commas false
        → Puts r (before ++ text x) l' r' l'' → Listed commas text all rest later at l r' l''
    listed_next {x} {rest} e n p =
        record {
          done = d.done ++ (x ∷ []);
          whole = d.whole ∙ ap (λ (xs : List A). d.done ++ xs) e ∙ sym (append_assoc d.done (x ∷ []) rest);
          open_is = n ∙ sym (ap (before_of commas) (some d.done x));
          wrote = puts-as
              (ap (λ (b : List ℕ). list_of commas (map text d.done) ++ (b ++ text x)) d.open_is ∙ list-more text commas d.done x)
              (puts_then d.wrote p);
        }

    -- the same, where an index says whether an item is the first
    pub listed-past : (first i : ℕ) → first < i → {x : A} {rest : List A} {r' : ℕ} {l'' : List ℕ} → left ≡ x ∷ rest → Puts r (before ++ text x) l' r' l''
        → Listed commas text all rest (before_of commas (eqb i first)) at l r' l''
    listed-past first i h e p = listed_next e (ap (before_of commas) (ne_eqb i first (λ z. omega arith))) p

    pub listed-end : left ≡ [] → Puts at (list_of commas (map text all)) l r l'
    listed-end e =
        let same : d.done ≡ all = sym (d.whole ∙ ap (λ (xs : List A). d.done ++ xs) e ∙ append-nil d.done) in
        puts-as (ap (λ (xs : List A). list_of commas (map text xs)) same) d.wrote
