-- What a caller may rely on: the octets are within the buffer, whose length stays, and a fault is within the text or at its end. Assumes nothing.
use Rattle.std.specs.Prelude.{◌≡◌, refl, Bool, true, false, cond, List, [], ◌∷◌, ℕ, ◌+◌, ◌≤◌, ltb, eqb, length, take}
use Rattle.std.proofs.Common.{ap, ◌∙◌, arith, length-take}
use Rattle.std.proofs.Math.Path.{subst}
use Rattle.octets.specs.OverLaws.{over-length}
use Rattle.inputs.specs.Read.{Read, Octets, Bad, Long}
use Rattle.base64_text.specs.Quantum.{Quantum}
use Rattle.base64_text.specs.Base64.{moved, whole, begun, End, good, fault, Decoded, none, onto, arrive, decode_from, decode, told, answer, Answered}
use Rattle.base64_text.specs.Exactly.{read-exactly}

-- ---- a fault

abbrev Within : ℕ → End → Type 0
Within n good = Unit {0}
Within n (fault i) = i ≤ n

end-within : (s : Quantum) (i : ℕ) (t : List ℕ) (n : ℕ) → i + length t ≤ n → Within n (decode_from s i t).end
unfolding decode_from
end-within s i [] n h = go (whole s)
  where
    go : (b : Bool) → Within n (cond b (none good) (none (fault i))).end
    go true = tt
    go false = omega arith
end-within s i (x ∷ t) n h = go (moved x s) (end-within (moved x s) (i + 1) t n (omega arith))
  where
    go : (m : Quantum) → Within n (decode_from m (i + 1) t).end → Within n (arrive m i (decode_from m (i + 1) t)).end
    go m f = test (eqb m.place 6) m.complete
      where
        test : (a b : Bool) → Within n (cond a (none (fault i)) (cond b (onto m.octet (decode_from m (i + 1) t)) (decode_from m (i + 1) t))).end
        test true b = omega arith
        test false true = f
        test false false = f

answer-bad : (room at why : ℕ) (d : Decoded) → Bad at why ≡ answer room d → d.end ≡ fault at
answer-bad room at why d e = go (ltb room (length d.octets)) d.end e
  where
    go : (b : Bool) (k : End) → Bad at why ≡ cond b Long (told k (length d.octets)) → k ≡ fault at
    go true k e = let z : ◌≡◌ {A = ℕ} 0 1 = cc in absurd (omega arith)
    go false good e = let z : ◌≡◌ {A = ℕ} 0 1 = cc in absurd (omega arith)
    go false (fault i) e = let q : at ≡ i = cc in rw q refl

module _ {text out out' : List ℕ} where
  pub bad-within : {at why : ℕ} → Answered text out (Bad at why) out' → at ≤ length text
  unfolding decode
  bad-within {at} {why} a =
      subst (Within (length text)) (answer-bad (length out) at why (decode text) a.answered) (end-within begun 0 text (length text) (omega arith))

  -- ---- the buffer

  pub octets-within : {n : ℕ} → Answered text out (Octets n) out' → n ≤ length out
  octets-within {n} a = let e = (read-exactly text out out' n).0 a in omega (arith, e.size, e.room)

  pub length-stays : {r : Read} → Answered text out r out' → length out' ≡ length out
  length-stays a =
      let h : length (take (length out) (decode text).octets) ≤ length out = simp length-take (omega arith) in
      ap length a.leaves ∙ over-length 0 (take (length out) (decode text).octets) out (omega arith)
