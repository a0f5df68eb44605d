-- RULES D3, its first half, over what writing answers and over what the calls leave: "Take any two sheets of one carrier that writing accepts".
-- `IsSheet` names the carrier and the records of the sheets. Assumes nothing.
use Rattle.std.specs.Prelude.{◌≡◌, ◌↔◌, List, ℕ, length, take}
use Rattle.std.proofs.Common.{ap, inl}
use Rattle.octets.specs.Numbers.{Bytes}
use Rattle.carriers.specs.declared.Carrier.{Carrier}
use Rattle.blocks.specs.Block.{Fields}
use Rattle.taking.specs.Sheet.{IsSheet}
use Rattle.written.specs.Writing.{write_of}
use Rattle.written.specs.Accepted.{Accepting}
use Rattle.written.specs.Defined.{Defined}
use Rattle.written.proofs.DefinedLaws.{written-defined, defined-sheet}
use Rattle.answers.specs.declared.Result.{Result}
use Rattle.answers.specs.Answers.{written, number_in, Writes}
use Rattle.roundtrip.proofs.RoundTripLaws.{call-wrote}
use Rattle.prefixes.specs.Prefix.{Leading, JoinedOctets}
use Rattle.prefixes.proofs.PrefixLaws.{prefix-exactly}
use Rattle.prefixes.proofs.JoinedLaws.{joined-defined}

module _ (c : Carrier) (s t a b x y : List ℕ) (rs qs : List Fields) (m n : ℕ) (octets : Bytes s) (octets' : Bytes t)
    (sheet : IsSheet s c rs) (sheet' : IsSheet t c qs) where
  -- two sheets that writing accepts, by 0 or 5 in whatever room, and the octets defined for them, which exist exactly then (`accepted-defined`)
  pub leading-defined : Accepting (number_in (write_of s m)) → Accepting (number_in (write_of t n)) → Defined s a → Defined t b
      → JoinedOctets c a x → JoinedOctets c b y → Leading x y ↔ Leading rs qs
  leading-defined u v d e j k =
      rw ((joined-defined c s a x rs octets sheet d).0 j, (joined-defined c t b y qs octets' sheet' e).0 k)
      (prefix-exactly c s t rs qs (defined-sheet s octets sheet d).0 (defined-sheet t octets' sheet' e).0)

  -- two sheets to which writing answered with octets, each in some room
  pub leading-exactly : write_of s m ≡ written a → write_of t n ≡ written b → JoinedOctets c a x → JoinedOctets c b y → Leading x y ↔ Leading rs qs
  leading-exactly u v =
      leading-defined (inl (ap number_in u)) (inl (ap number_in v)) (written-defined s octets m u) (written-defined t octets' n v)

-- two calls of `write` that returned 0, each with a buffer of its own
pub calls-leading : (c : Carrier) (s t x y : List ℕ) (rs qs : List Fields) (out out₁ other other₁ : List ℕ) (w v : Result)
    → Bytes s → Bytes t → IsSheet s c rs → IsSheet t c qs
    → Writes (write_of s (length out)) out w out₁ → w.number ≡ 0
    → Writes (write_of t (length other)) other v other₁ → v.number ≡ 0
    → JoinedOctets c (take w.length out₁) x → JoinedOctets c (take v.length other₁) y
    → Leading x y ↔ Leading rs qs
calls-leading c s t x y rs qs out out₁ other other₁ w v octets octets' i j f z g z' =
    leading-exactly c s t (take w.length out₁) (take v.length other₁) x y rs qs (length out) (length other) octets octets' i j
    (call-wrote s out out₁ w octets f z)
    (call-wrote t other other₁ v octets' g z')
