-- `blocks::counted` meets its contract: the count, and then so many octets. Assumes nothing.
use Rattle.std.proofs.Common.{◌≡◌, Result, Ok, Err, IsErrAnd, MatchResult}
use Rattle.numbers.specs.declared.Fault.{Fault}
use Rattle.numbers.specs.declared.Fault.TheVariants.{Field}
use Rattle.blocks.specs.PartsLaws.{counted-stops, counted-counts, counted-past}
use Rattle.blocks.proofs.counted.Goals as goal

-- a fault that is handed on
handed-on : {A : Type 0} (P : A → Type 0) (Q : Fault → Type 0) (r : Result A Fault) {k : Fault} → IsErrAnd r (λ e. e ≡ k) → Q k → MatchResult r P Q
handed-on P Q (Ok _) h q = elim h [ ]
handed-on P Q (Err _) h q = rw h q

pub returns-in_err-count : goal.returns-in_err-count
returns-in_err-count c = handed-on _ _ _ c.from_residual.ensures.1 (c.in_err-count.ensures.0, counted-stops _ _ c.in_err-count.ensures.1)

-- what a second step says of its answer, said of both
past : {A : Type 0} (P P' : A → Type 0) (s s' : Type 0) (r : Result A Fault) → MatchResult r P (λ k. (k ≡ Field) × s) → ((x : A) → P x → P' x) → (s → s')
    → MatchResult r P' (λ k. (k ≡ Field) × s')
past P P' s s' (Ok x) h p q = p x h
past P P' s s' (Err k) h p q = (h.0, q h.1)

pub returns : goal.returns
returns c =
    let e = c.get_number.ensures.value in
    let y = c.in_ok-count.ensures in
    let l = c.args.l.now in
    let w = c.args.w in
    past _ _ _ _ c.part-2.result c.part-2.ensures (λ p t. counted-counts w l y e t) (λ s. counted-past w l y e s)
