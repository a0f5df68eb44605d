-- The laws of a path's folder, one for each turn of the code that looks for it. Assumes nothing.
use Rattle.std.specs.Prelude.{◌≡◌, refl, List, ℕ, zero, suc, ◌-◌, ◌≤◌, ◌<◌, get_or}
use Rattle.std.proofs.Common.{ap, ◌∙◌, arith, eq-eqb, ne_eqb}
use Rattle.files.specs.Paths.{slash_in}

pub slash-here : (i : ℕ) (s : List ℕ) → 0 < i → get_or s (i - 1) 0 ≡ 47 → i ≡ slash_in i s
unfolding slash_in
slash-here zero s h e = absurd (omega arith)
slash-here (suc k) s h e =
    let d : suc k - 1 ≡ k = omega arith in
    let f : get_or s k 0 ≡ 47 = rw d at e in
    rw (eq-eqb (get_or s k 0) 47 f)

pub slash-before : (i : ℕ) (s : List ℕ) → 0 < i → (get_or s (i - 1) 0 ≡ 47 → ⊥) → slash_in (i - 1) s ≡ slash_in i s
unfolding slash_in
slash-before zero s h n = absurd (omega arith)
slash-before (suc k) s h n =
    let d : suc k - 1 ≡ k = omega arith in
    let f : get_or s k 0 ≡ 47 → ⊥ = λ e. n (ap (λ (j : ℕ). get_or s j 0) d ∙ e) in
    ap (λ (j : ℕ). slash_in j s) d ∙ rw (ne_eqb (get_or s k 0) 47 f)

pub slash-none : (i : ℕ) (s : List ℕ) → i ≤ 0 → 0 ≡ slash_in i s
unfolding slash_in
slash-none zero s h = refl
slash-none (suc k) s h = absurd (omega arith)
