-- What a call of `write` returns and leaves is what the answers that stand say, and nothing else (RULES D2). Assumes nothing.
use Rattle.std.specs.Prelude.{◌≡◌, refl, ◌↔◌, List, ℕ, length}
use Rattle.std.proofs.Common.{ap, ◌∙◌, arith}
use Rattle.std.proofs.Math.Path.{subst⁻¹}
use Rattle.octets.specs.Numbers.{Bytes}
use Rattle.numbers.specs.Fault as fault
use Rattle.answers.specs.declared.Result.{Result}
use Rattle.answers.specs.Answers.{Answer, refuse, written, told, Writes}
use Rattle.answers.proofs.AnswersLaws.{writes_as}
use Rattle.written.specs.Writing.{write_of}
use Rattle.written.specs.Answers.{Answers}
use Rattle.written.proofs.AnswersLaws.{write-exactly}
use Rattle.written.specs.Wrong.{WrongName}
use Rattle.written.proofs.WrongLaws.{wrong-exactly, no_place}

-- whatever a call of `write` returned and left is what one of the answers that stand there says
pub call-writes : (s out out' : List ℕ) (w : Result) → Bytes s
    → Writes (write_of s (length out)) out w out' ↔ ((a : Answer) × Answers s (length out) a × Writes a out w out')
call-writes s out out' w octets = (
  λ g. (write_of s (length out), (write-exactly s (length out) (write_of s (length out)) octets).0 refl, g),
  λ g. writes_as ((write-exactly s (length out) g.0 octets).1 g.1) g.2,
)

-- where it returned 22, the name of a record is wrong at the place that it returned, and with every other number it returned place 0 (RULES T8)
module _ (s out out' : List ℕ) (w : Result) (g : Writes (write_of s (length out)) out w out') where
  by_answer : (P : Result → Type 0) → ((k p : ℕ) → write_of s (length out) ≡ refuse k p → P (told (refuse k p))) → ((bs : List ℕ) → P (told (written bs))) → P w
  by_answer P refused finished = subst⁻¹ P g.numbers (go (write_of s (length out)) refl)
    where
      go : (a : Answer) → write_of s (length out) ≡ a → P (told a)
      go (refuse k p) e = refused k p e
      go (written bs) e = finished bs

  pub call-wrong-name : Bytes s → w.number ≡ fault.name → WrongName s w.place
  call-wrong-name octets =
      by_answer (λ w. w.number ≡ fault.name → WrongName s w.place)
      (λ k p e n. (wrong-exactly s (length out) p octets).0 (e ∙ ap (λ (k : ℕ). refuse k p) n))
      (λ bs n. absurd (omega arith))

  pub call-no-place : (w.number ≡ fault.name → ⊥) → w.place ≡ 0
  call-no-place = by_answer (λ w. (w.number ≡ fault.name → ⊥) → w.place ≡ 0) (λ k p e n. no_place s (length out) k p e n) (λ bs n. refl)
