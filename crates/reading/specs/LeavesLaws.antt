-- RULES D1, over the contract of reading: a refusal gives its number alone and leaves every octet of the buffer (RULES T6), and a result leaves
-- every octet past its length (RULES T7). Assumes nothing.
use Rattle.std.specs.Prelude.{◌≡◌, List, ℕ, drop}
use Rattle.std.proofs.Common.{sym, ap, ◌∙◌}
use Rattle.octets.specs.OverLaws.{over-past}
use Rattle.reading.specs.declared.Reading.{Reading}
use Rattle.reading.specs.Result.{Answer, refuse, done, told, Reads}

module _ (out out' : List ℕ) (r : Reading) where
  pub refused-leaves : (a : Answer) → Reads a out r out' → (r.number ≡ 0 → ⊥) → (r ≡ told (refuse r.number)) × (out' ≡ out)
  refused-leaves (refuse k) reads n = (reads.numbers ∙ ap (λ (k : ℕ). told (refuse k)) (sym (ap (λ (r : Reading). r.number) reads.numbers)), reads.leaves)
  refused-leaves (done d) reads n = absurd (n (ap (λ (r : Reading). r.number) reads.numbers))

  pub past-kept : (a : Answer) → Reads a out r out' → drop r.length out' ≡ drop r.length out
  past-kept (refuse k) reads = ap (drop r.length) reads.leaves
  past-kept (done d) reads =
      rw (ap (λ (r : Reading). r.length) reads.numbers, reads.leaves) (over-past d.sheet out)
