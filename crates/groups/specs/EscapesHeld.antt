-- Where a text of \x and two digits each stands, as src/ has it, by its number. No two places have one number. Assumes nothing.
use Rattle.std.specs.Prelude.{◌≡◌, refl, ℕ, Option, Some, None}
use Rattle.std.proofs.Common.{arith}
use Rattle.groups.specs.declared.escapes.At.{At}
use Rattle.groups.specs.declared.escapes.At.TheVariants.{Between, Backslash, Ex, High, Low}

abbrev pub number_of : At → ℕ
number_of Between = 0
number_of Backslash = 1
number_of Ex = 2
number_of High = 3
number_of Low = 4

-- where a character leads; nowhere is 5
abbrev pub at_in : Option At → ℕ
at_in (Some a) = number_of a
at_in None = 5

pub somewhere : (a : At) → number_of a ≡ 5 → ⊥
somewhere Between e = absurd (omega arith)
somewhere Backslash e = absurd (omega arith)
somewhere Ex e = absurd (omega arith)
somewhere High e = absurd (omega arith)
somewhere Low e = absurd (omega arith)

pub not-low : (a : At) → (a ≡ Low → ⊥) → number_of a ≡ 4 → ⊥
not-low Between h e = absurd (omega arith)
not-low Backslash h e = absurd (omega arith)
not-low Ex h e = absurd (omega arith)
not-low High h e = absurd (omega arith)
not-low Low h e = h refl
