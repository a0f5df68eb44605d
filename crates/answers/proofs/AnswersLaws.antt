-- RULES D1, over the contract of a call that writes one buffer: a refusal gives its number and place alone and leaves every octet of the buffer
-- (RULES T6, T8), and a result leaves every octet past its length (RULES T7); what was written fits its buffer. Assumes nothing.
use Rattle.std.specs.Prelude.{◌≡◌, refl, List, ℕ, ◌≤◌, length, drop}
use Rattle.std.proofs.Common.{sym, ap, ap₂, ◌∙◌, arith}
use Rattle.std.proofs.Math.Path.{subst⁻¹}
use Rattle.octets.specs.Over.{Wrote}
use Rattle.octets.specs.OverLaws.{over-fits, over-past}
use Rattle.answers.specs.declared.Result.{Result}
use Rattle.answers.specs.Answers.{Answer, refuse, written, number_in, told, left, Writes}

pub told-number : (a : Answer) → (told a).number ≡ number_in a
told-number (refuse k p) = refl
told-number (written bs) = refl

-- the same answer says the same
pub writes_as : {a b : Answer} {out out' : List ℕ} {r : Result} → a ≡ b → Writes b out r out' → Writes a out r out'
writes_as {a} {b} {out} {out'} {r} e w = subst⁻¹ (λ (x : Answer). Writes x out r out') e w

-- a refusal
pub writes-refused : {a : Answer} {k p : ℕ} {r : Result} (out : List ℕ) → a ≡ refuse k p → r ≡ told (refuse k p) → Writes a out r out
writes-refused out e n = writes_as e (record { numbers = n; leaves = refl })

-- octets at the front of the buffer
pub writes-written : {bs out out' : List ℕ} {n : ℕ} {r : Result} → Wrote 0 bs out n out' → (r.number ≡ 0) × (r.length ≡ n) × (r.place ≡ 0)
    → Writes (written bs) out r out'
writes-written {bs} {out} {out'} {n} w h =
    let e : n ≡ length bs = omega (arith, w.next) in
    record { numbers = rw (h.0, h.1, h.2, e) refl; leaves = w.laid }

-- what the call wrote fits its buffer, which keeps its length
pub writes-fits : (a : Answer) {out out' : List ℕ} {r : Result} → Writes a out r out' → length out' ≡ length out → r.length ≤ length out'
writes-fits a {out} {out'} {r} w e = rw (w.numbers, e) (go a w.leaves)
  where
    go : (a : Answer) → out' ≡ left a out → (told a).length ≤ length out
    go (refuse k p) l = omega arith
    go (written bs) l = over-fits bs out (sym (ap length l) ∙ e)

module _ (out out' : List ℕ) (w : Result) where
  pub refused-leaves : (a : Answer) → Writes a out w out' → (w.number ≡ 0 → ⊥) → (w ≡ told (refuse w.number w.place)) × (out' ≡ out)
  refused-leaves (refuse k p) writes n = (
    writes.numbers
        ∙ ap₂ (λ (k p : ℕ). told (refuse k p)) (sym (ap (λ (w : Result). w.number) writes.numbers)) (sym (ap (λ (w : Result). w.place) writes.numbers)),
    writes.leaves,
  )
  refused-leaves (written bs) writes n = absurd (n (ap (λ (w : Result). w.number) writes.numbers))

  pub past-kept : (a : Answer) → Writes a out w out' → drop w.length out' ≡ drop w.length out
  past-kept (refuse k p) writes = rw writes.leaves
  past-kept (written bs) writes = rw (ap (λ (w : Result). w.length) writes.numbers, writes.leaves) (over-past bs out)
