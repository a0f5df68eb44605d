-- There is one first bad place, whatever is acceptable. Assumes nothing.
use Rattle.std.specs.Prelude.{◌≡◌, List, ◌++◌, ℕ, ◌+◌, ◌<◌, take, drop}
use Rattle.std.proofs.Common.{sym, ap, ◌∙◌, append_assoc, arith, take-append-drop, take-take}
use Rattle.names.specs.Names.{FirstBad}

-- no first bad place lies before another
not-before : {Acceptable : List ℕ → Type 0} (s : List ℕ) (p q : ℕ) → FirstBad Acceptable s p → FirstBad Acceptable s q → p < q → ⊥
not-before s p q a b h =
    let w = b.within in
    let t = b.goes_on.0 in
    let m : List ℕ = drop (p + 1) (take q s) in
    let e : take (p + 1) (take q s) ≡ take (p + 1) s = take-take (p + 1) q s (omega arith) in
    let k : take (p + 1) s ++ m ≡ take q s = ap (λ (l : List ℕ). l ++ m) (sym e) ∙ take-append-drop (p + 1) (take q s) in
    let j : take (p + 1) s ++ (m ++ t) ≡ take q s ++ t = sym (append_assoc (take (p + 1) s) m t) ∙ ap (λ (l : List ℕ). l ++ t) k in
    a.halts (omega arith) (m ++ t) (rw j b.goes_on.1)

pub one_place : {Acceptable : List ℕ → Type 0} (s : List ℕ) (p q : ℕ) → FirstBad Acceptable s p → FirstBad Acceptable s q → p ≡ q
one_place s p q a b =
    let f : p < q → ⊥ = not-before s p q a b in
    let g : q < p → ⊥ = not-before s q p b a in
    omega arith
