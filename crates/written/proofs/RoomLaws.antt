-- The room decides whether a writing is done or refused by 5, and nothing else: a writing that is done in one room gives the same octets in
-- every room that they fit. Assumes nothing.
use Rattle.std.specs.Prelude.{◌≡◌, Bool, true, false, cond, List, ℕ, ltb, length}
use Rattle.std.proofs.Common.{ap, arith}
use Rattle.numbers.specs.Refusal as refusal
use Rattle.carriers.specs.declared.Carrier.{Carrier}
use Rattle.blocks.specs.Block.{Fields}
use Rattle.vetting.specs.Vetting.{Vetted, any_large, vet_of}
use Rattle.vetting.specs.Vetting as vetting
use Rattle.written.specs.Writing.{in_room, write_records, write_vetted, write_of}
use Rattle.answers.specs.Answers.{refuse, written}
use Rattle.written.specs.Octets.{octets_of}

module _ {octets : List ℕ} where
  refused : {k p : ℕ} → refuse k p ≡ written octets → ⊥
  refused e = let z : ◌≡◌ {A = ℕ} 0 1 = cc in omega arith

  records-so : (c : Carrier) (rs : List Fields) (a b : ℕ) → write_records c rs a ≡ written octets → write_records c rs b ≡ in_room octets b
  records-so c rs a b = go (any_large c rs) (ltb a (length (octets_of c rs)))
    where
      go : (big short : Bool)
          → cond big (refuse refusal.large 0) (cond short (refuse refusal.room 0) (written (octets_of c rs))) ≡ written octets
          → cond big (refuse refusal.large 0) (in_room (octets_of c rs) b) ≡ in_room octets b
      go true short e = absurd (refused e)
      go false true e = absurd (refused e)
      go false false e = let i : octets_of c rs ≡ octets = cc in ap (λ (l : List ℕ). in_room l b) i

  vetted-so : (v : Vetted) (a b : ℕ) → write_vetted v a ≡ written octets → write_vetted v b ≡ in_room octets b
  vetted-so (vetting.refuse k p) a b e = absurd (refused e)
  vetted-so (vetting.sheet c rs) a b e = records-so c rs a b e

  -- done in room a, it is in room b done with the same octets, or refused by 5
  pub room-decides : (s : List ℕ) (a b : ℕ) → write_of s a ≡ written octets → write_of s b ≡ in_room octets b
  unfolding write_of
  room-decides s a b e = vetted-so (vet_of s) a b e
