-- `blocks::part` meets its contract: it hands on both parts, or stops. Assumes nothing.
use Rattle.std.proofs.Common.{Option, Some, None, MatchOption, MatchResult, ok_or, refl}
use Rattle.numbers.specs.declared.Fault.{Fault}
use Rattle.blocks.specs.PartsLaws.{part-takes, part-stops}
use Rattle.blocks.proofs.part.Goals as goal

-- what is known where there is a value, and where there is none
by_cases : {A : Type 0} {N : Type 0} {P : A → Type 0} (P' : A → Type 0) (Q : Fault → Type 0) (o : Option A) (k : Fault) → MatchOption o N P
    → ((x : A) → P x → P' x) → (N → Q k) → MatchResult (ok_or o k) P' Q
by_cases P' Q (Some x) k h p q = p x h
by_cases P' Q None k h p q = q h

pub returns : goal.returns
returns c =
    rw c.ok_or.ensures.value
    (by_cases _ _ c.split_at_checked.result _ c.split_at_checked.ensures.cases (λ p. part-takes _ _) (λ h. (refl, part-stops _ _ h)))
