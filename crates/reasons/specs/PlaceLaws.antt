-- The reason at a place of a name in wire form, by the labels before it. Assumes nothing.
use Rattle.std.specs.Prelude.{◌≡◌, refl, List, [], ◌∷◌, ◌++◌, ℕ, ◌+◌, ◌-◌, ◌≤◌, ◌<◌, length, get_or}
use Rattle.std.proofs.Common.{sym, ap, ◌∙◌, append_assoc, arith, length-append}
use Rattle.std.proofs.lemmas.List.{get_or_at}
use Rattle.octets.specs.Lists.{All}
use Rattle.reasons.specs.declared.Mark.{Mark}
use Rattle.reasons.specs.declared.Mark.TheVariants.{Length, Label, After}
use Rattle.reasons.specs.Reason as reason
use Rattle.reasons.specs.Names.{mark_from, mark_of, length_reason, octet_reason, mark_reason, wire_reason}
use Rattle.reasons.specs.NamesLaws.{mark-length, mark-label, mark-after, mark-opens, mark-within, wire-within}
use Rattle.reasons.specs.Claims.{labelled}

-- ---- labels one after another

pub labelled-length : (ls : List (List ℕ)) (t : List ℕ) → length (labelled ls t) ≡ length (labelled ls []) + length t
labelled-length [] t = omega arith
labelled-length (l ∷ ls) t =
    omega (arith, length-append l (labelled ls t), length-append l (labelled ls []), labelled-length ls t)

pub labelled-append : (ls : List (List ℕ)) (t : List ℕ) → labelled ls t ≡ labelled ls [] ++ t
labelled-append [] t = refl
labelled-append (l ∷ ls) t =
    ap (λ (m : List ℕ). length l ∷ (l ++ m)) (labelled-append ls t)
    ∙ ap (λ (m : List ℕ). length l ∷ m) (sym (append_assoc l (labelled ls []) t))

pub labelled-snoc : (ls : List (List ℕ)) (l t : List ℕ) → labelled (ls ++ (l ∷ [])) t ≡ labelled ls (length l ∷ (l ++ t))
labelled-snoc [] l t = refl
labelled-snoc (m ∷ ms) l t = ap (λ (q : List ℕ). length m ∷ (m ++ q)) (labelled-snoc ms l t)

-- ---- what stands after them

mark-past : (l t : List ℕ) (k j m n : ℕ) → m ≡ length l + k → n ≡ length l + j → mark_from m n (l ++ t) ≡ mark_from k j t
mark-past [] t k j m n e f =
    let a : m ≡ k = omega arith in
    let b : n ≡ j = omega arith in
    cc
mark-past (x ∷ l) t k j m n e f =
    mark-within x (l ++ t) m n (λ z. omega arith) (λ z. omega arith)
    ∙ mark-past l t k j (m - 1) (n - 1) (omega arith) (omega arith)

abbrev pub Some : List ℕ → Type 0
Some l = 1 ≤ length l

mark-labelled : (ls : List (List ℕ)) (t : List ℕ) (j n : ℕ) → All Some ls → n ≡ length (labelled ls []) + j
    → mark_from 0 n (labelled ls t) ≡ mark_from 0 j t
mark-labelled [] t j n o e = let q : n ≡ j = omega arith in cc
mark-labelled (l ∷ ls) t j n o e =
    let h = o.0 in
    let a = length-append l (labelled ls []) in
    let m : ℕ = length (labelled ls []) + j in
    mark-opens (length l) (l ++ labelled ls t) 0 n refl (λ z. omega arith) (λ z. omega arith)
    ∙ mark-past l (labelled ls t) 0 m (length l) (n - 1) (omega arith) (omega arith)
    ∙ mark-labelled ls t j m o.1 refl

-- ---- the reason there

module _ (ls : List (List ℕ)) (o : All Some ls) (s : List ℕ) (p x : ℕ) (xs : List ℕ) where
  -- by what stands at the place
  by-mark : (b : List ℕ) (m : Mark) → s ≡ labelled ls (b ++ (x ∷ xs)) → p ≡ length (labelled ls b) → m ≡ mark_of s p
      → wire_reason s p ≡ mark_reason m x
  by-mark b m e q f =
      let n = labelled-length ls (b ++ (x ∷ xs)) in
      let k = labelled-length ls b in
      let a = length-append b (x ∷ xs) in
      let z = ap length e in
      let g : x ≡ get_or s p 0 =
      sym (ap (λ (l : List ℕ). get_or l p 0)
      (e ∙ labelled-append ls (b ++ (x ∷ xs)) ∙ sym (append_assoc (labelled ls []) b (x ∷ xs))
      ∙ ap (λ (l : List ℕ). l ++ (x ∷ xs)) (sym (labelled-append ls b)))
      ∙ get_or_at (labelled ls b) x xs 0 p (sym q)) in
      sym (wire-within s p (λ y. omega arith) (omega arith) g f)

  pub at_length : s ≡ labelled ls (x ∷ xs) → p ≡ length (labelled ls []) → wire_reason s p ≡ length_reason x
  at_length e q =
      by-mark [] Length e q
      (sym (ap (λ (l : List ℕ). mark_from 0 p l) e ∙ mark-labelled ls (x ∷ xs) 0 p o (omega arith) ∙ mark-length x xs 0 0 refl refl))

  pub after-root : s ≡ labelled ls (0 ∷ (x ∷ xs)) → p ≡ length (labelled ls (0 ∷ [])) → wire_reason s p ≡ reason.after
  after-root e q =
      let k = labelled-length ls (0 ∷ []) in
      by-mark (0 ∷ []) After e q
      (sym (ap (λ (l : List ℕ). mark_from 0 p l) e ∙ mark-labelled ls (0 ∷ (x ∷ xs)) 1 p o (omega arith)
      ∙ mark-after 0 (x ∷ xs) 0 1 refl (λ z. omega arith) refl))

  pub in-label : (n : ℕ) (b : List ℕ) → length b < n → s ≡ labelled ls (n ∷ (b ++ (x ∷ xs))) → p ≡ length (labelled ls (n ∷ b))
      → wire_reason s p ≡ octet_reason x
  in-label n b h e q =
      let k = labelled-length ls (n ∷ b) in
      by-mark (n ∷ b) Label e q
      (sym (ap (λ (l : List ℕ). mark_from 0 p l) e ∙ mark-labelled ls (n ∷ (b ++ (x ∷ xs))) (length b + 1) p o (omega arith)
      ∙ mark-opens n (b ++ (x ∷ xs)) 0 (length b + 1) refl (λ z. omega arith) (λ z. omega arith)
      ∙ mark-past b (x ∷ xs) (n - length b) 0 n (length b + 1 - 1) (omega arith) (omega arith)
      ∙ mark-label x xs (n - length b) 0 (λ z. omega arith) refl))
