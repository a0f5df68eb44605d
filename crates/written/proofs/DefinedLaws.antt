-- Acceptance by what writing answers: it answers 0 or 5 exactly where octets are defined for the sheet; they are one thing, and the octets of
-- the sheet's records. Assumes nothing.
use Rattle.std.specs.Prelude.{◌≡◌, refl, ◌↔◌, Bool, true, false, cond, List, ℕ, ◌+◌, ltb, length}
use Rattle.std.proofs.Common.{ap, ◌∙◌, inl, inr, arith, lt-ltb, le-ltb, ltb-true, ltb-false}
use Rattle.std.proofs.Math.Path.{subst⁻¹}
use Rattle.octets.specs.Numbers.{Bytes}
use Rattle.numbers.specs.Refusal as refusal
use Rattle.carriers.specs.declared.Carrier.{Carrier}
use Rattle.blocks.specs.Block.{Fields}
use Rattle.taking.specs.Sheet.{IsSheet}
use Rattle.written.specs.Writing.{write_of}
use Rattle.answers.specs.Answers.{refuse, written, number_in}
use Rattle.written.specs.Octets.{octets_of}
use Rattle.written.specs.Accepted.{Accepted, Accepting}
use Rattle.written.specs.Defined.{Defined}
use Rattle.written.proofs.AcceptedLaws.{accepted-writes, accepted-exactly, answered-sheet}

-- ---- the octets of accepted records

pub defined-octets : (s : List ℕ) (c : Carrier) (rs : List Fields) → Accepted s c rs → Defined s (octets_of c rs)
defined-octets s c rs a = record {
  enough = λ room h. accepted-writes s c rs room a
      ∙ ap (λ (b : Bool). cond b (refuse refusal.room 0) (written (octets_of c rs))) (le-ltb room (length (octets_of c rs)) h);
  little = λ room h. accepted-writes s c rs room a
      ∙ ap (λ (b : Bool). cond b (refuse refusal.room 0) (written (octets_of c rs))) (lt-ltb room (length (octets_of c rs)) h);
}

-- octets that are defined are one thing
pub defined-once : (s a b : List ℕ) → Defined s a → Defined s b → a ≡ b
defined-once s a b d e =
    let room : ℕ = length a + length b in
    let one : write_of s room ≡ written a = d.enough room (omega arith) in
    let other : write_of s room ≡ written b = e.enough room (omega arith) in
    cc

module _ (s : List ℕ) (bytes : Bytes s) where
  -- writing answers 0 or 5, in whatever room, exactly if octets are defined for the sheet
  pub accepted-defined : (room : ℕ) → Accepting (number_in (write_of s room)) ↔ ((octets : List ℕ) × Defined s octets)
  accepted-defined room = (there, λ d. answers d.0 d.1 (ltb room (length d.0)) refl)
    where
      there : Accepting (number_in (write_of s room)) → (octets : List ℕ) × Defined s octets
      there a =
          let (c, rs, k) = (accepted-exactly s bytes room).0 a in
          (octets_of c rs, defined-octets s c rs k)

      answers : (octets : List ℕ) → Defined s octets → (b : Bool) → ltb room (length octets) ≡ b → Accepting (number_in (write_of s room))
      answers octets d true t = inr (ap number_in (d.little room (ltb-true _ _ t)))
      answers octets d false t = inl (ap number_in (d.enough room (ltb-false _ _ t)))

  -- 0 comes with the octets defined
  pub zero-defined : (room : ℕ) → number_in (write_of s room) ≡ 0 → (octets : List ℕ) × Defined s octets × (write_of s room ≡ written octets)
  zero-defined room z = let d = (accepted-defined room).0 (inl z) in (d.0, d.1, go d.0 d.1 (ltb room (length d.0)) refl)
    where
      go : (octets : List ℕ) → Defined s octets → (b : Bool) → ltb room (length octets) ≡ b → write_of s room ≡ written octets
      go octets d true t = absurd (omega (arith, ap number_in (d.little room (ltb-true _ _ t))))
      go octets d false t = d.enough room (ltb-false _ _ t)

  -- octets that writing gives, in some room, are those defined
  pub written-defined : (room : ℕ) {octets : List ℕ} → write_of s room ≡ written octets → Defined s octets
  written-defined room {octets} e =
      let d = zero-defined room (ap number_in e) in
      let same : octets ≡ d.0 = let i : write_of s room ≡ written d.0 = d.2 in cc in
      subst⁻¹ (Defined s) same d.1

  -- and those of the sheet's records
  pub defined-sheet : {c : Carrier} {rs : List Fields} {octets : List ℕ} → IsSheet s c rs → Defined s octets
      → Accepted s c rs × (octets ≡ octets_of c rs)
  defined-sheet {c} {rs} {octets} i d =
      let a : Accepted s c rs = answered-sheet s bytes 0 i ((accepted-defined 0).1 (octets, d)) in
      (a, defined-once s octets (octets_of c rs) d (defined-octets s c rs a))
