-- An accepted sheet is one to which writing answers 0 or 5; its records have room in their carrier; and what writing then answers.
-- Assumes nothing.
use Rattle.std.specs.Prelude.{◌≡◌, ◌⊎◌, ◌↔◌, Bool, cond, ◌||◌, ℕ, ◌^◌, ◌<◌, ltb, length}
use Rattle.std.proofs.Math.Path.{refl}
use Rattle.std.proofs.Common.{inl, inr, true≢false, arith, ltb-false, le-ltb}
use Rattle.std.proofs.Math.Bool.{true, false}
use mathlib.Core.List.{List, [], ◌∷◌}
use Rattle.octets.specs.Numbers.{Bytes}
use Rattle.octets.specs.Lists.{All}
use Rattle.octets.specs.ListsLaws.{all_map}
use Rattle.numbers.specs.Refusal as refusal
use Rattle.numbers.specs.Limit as limit
use Rattle.carriers.specs.declared.Carrier.{Carrier}
use Rattle.carriers.specs.declared.Form.{Form}
use Rattle.carriers.specs.declared.Form.TheVariants.{Wire, Padded, Text}
use Rattle.carriers.specs.Carriers.{lifetime_width, address_width, in_eights, form_of, lifetime_in}
use Rattle.carriers.proofs.CarriersLaws.{eights-router}
use Rattle.names.specs.Right.{three}
use Rattle.blocks.specs.Block.{Fields, option_size}
use Rattle.judge.specs.declared.Side.TheVariants.{Writing}
use Rattle.judge.specs.Allowed.{Allowed}
use Rattle.judge.specs.Passed.{FaultNumber}
use Rattle.layouts.specs.Writable.{Writable, WritableTail}
use Rattle.sheets.specs.Sheets.{front_size}
use Rattle.taking.specs.Sheet.{FitsTail, FitsRecord, IsSheet}
use Rattle.taking.specs.TakenLaws.{Refusing, refusing-some}
use Rattle.taking.specs.Exactly.{sheet-taken, sheet-once}
use Rattle.vetting.specs.Vetting.{Vetted, large, any_large, vet_of}
use Rattle.vetting.specs.Vetting as vetting
use Rattle.vetting.proofs.VettingLaws.{allowed-faultless, taken-vetted, vet-exactly, vetted-by}
use Rattle.written.specs.Writing.{write_vetted, write_of}
use Rattle.answers.specs.Answers.{refuse, written, number_in}
use Rattle.written.specs.Octets.{octets_of}
use Rattle.written.specs.Accepted.{Sized, Sound, Accepted, Accepting}

-- ---- an accepted record has room in its carrier

lifetime-room : (c : Carrier) (n : ℕ) → n < 4294967296 → (lifetime_width c ≡ 0 → n ≡ 0) → n < 256 ^ lifetime_width c
lifetime-room c n h = go (form_of c)
  where
    go : (k : Form) → (lifetime_in k ≡ 0 → n ≡ 0) → n < 256 ^ lifetime_in k
    go Wire z = let e : n ≡ 0 = z refl in omega arith
    go Padded z = h
    go Text z = let e : n ≡ 0 = z refl in omega arith

module _ (c : Carrier) (r : Fields) (s : Sound c r) where
  tail-writable : r.full ≡ true → WritableTail (address_width c) r
  tail-writable u =
      let t = s.allowed.full_form u in
      record { some = t.whole.0; whole = t.whole.1; few = t.few.0; short = t.few.1 }

  bare : (full : Bool) → FitsTail (address_width c) full r.addresses r.parameters → full ≡ false → (r.addresses ≡ []) × (r.parameters ≡ [])
  bare true t e = absurd (true≢false e)
  bare false t e = t

  pub writable : Writable c r
  writable =
      let named = s.allowed.named in
      record {
        priority = s.fits.priority;
        lifetime = lifetime-room c r.lifetime s.fits.lifetime s.fits.placed;
        some = let h = three named in omega arith;
        short = named.short;
        tail = tail-writable;
        name_only = λ u. let b = bare r.full s.fits.tail u in (b.0, b.1, s.allowed.name_only u);
        units = s.units;
      }

-- ---- 44

module _ (c : Carrier) where
  one-sized : (r : Fields) → (large c r ≡ false) ↔ Sized c r
  one-sized r = (λ e i. let q = rw i at e in ltb-false _ _ q, λ h. go (in_eights c) refl h)
    where
      go : (b : Bool) → in_eights c ≡ b → Sized c r → cond b (ltb limit.option (option_size r)) false ≡ false
      go true e h = le-ltb limit.option (option_size r) (h (eights-router c e))
      go false e h = refl

  pub sized-exactly : (rs : List Fields) → (any_large c rs ≡ false) ↔ All (Sized c) rs
  unfolding any_large
  sized-exactly [] = (λ e. tt, λ h. refl)
  sized-exactly (r ∷ rs) = go (large c r) (one-sized r) (sized-exactly rs)
    where
      go : (big : Bool) → (big ≡ false) ↔ Sized c r → (any_large c rs ≡ false) ↔ All (Sized c) rs
          → (big || any_large c rs ≡ false) ↔ (Sized c r × All (Sized c) rs)
      go true one ih = (λ e. absurd (true≢false e), λ h. absurd (true≢false (one.1 h.0)))
      go false one ih = (λ e. (one.0 refl, ih.0 e), λ h. ih.1 h.1)

  -- records that fit a sheet, allowed and none large, are those accepted
  tested-sound : (rs : List Fields) → All (FitsRecord c) rs → All (Allowed Writing c) rs → All (Sized c) rs → All (Sound c) rs
  tested-sound [] f p l = tt
  tested-sound (r ∷ rs) f p l = (record { fits = f.0; allowed = p.0; units = l.0 }, tested-sound rs f.1 p.1 l.1)

  sound-small : (rs : List Fields) → All (Sound c) rs → any_large c rs ≡ false
  sound-small rs h = (sized-exactly rs).1 (all_map (Sound c) (Sized c) rs (λ r k. k.units) h)

module _ (s : List ℕ) (c : Carrier) (rs : List Fields) where
  pub sheet-accepted : IsSheet s c rs → All (Allowed Writing c) rs → All (Sized c) rs → Accepted s c rs
  sheet-accepted i p l = record { is = i; sound = tested-sound c rs i.each p l }

  -- a sheet is accepted exactly where it is vetted and no record is large
  pub vetted-accepted : Bytes s → vet_of s ≡ vetting.sheet c rs → any_large c rs ≡ false → Accepted s c rs
  vetted-accepted octets e l = let v = (vet-exactly s c rs octets).0 e in sheet-accepted v.0 v.1 ((sized-exactly c rs).0 l)

  accepted-vetted : Accepted s c rs → vet_of s ≡ vetting.sheet c rs
  accepted-vetted a =
      taken-vetted s (sheet-taken s c rs a.is) (allowed-faultless c front_size rs (all_map (Sound c) (Allowed Writing c) rs (λ r k. k.allowed) a.sound))

-- ---- the call

-- what writing answers to an accepted sheet: its octets, or 5
pub accepted-writes : (s : List ℕ) (c : Carrier) (rs : List Fields) (room : ℕ) → Accepted s c rs
    → write_of s room ≡ cond (ltb room (length (octets_of c rs))) (refuse refusal.room 0) (written (octets_of c rs))
unfolding write_of
accepted-writes s c rs room a = rw (accepted-vetted s c rs a, sound-small c rs a.sound)

module _ (s : List ℕ) (octets : Bytes s) (room : ℕ) where
  -- a refusal of vetting is neither
  refused-not : (k p : ℕ) → vet_of s ≡ vetting.refuse k p → Accepting k → ⊥
  refused-not k p e = go (vetted-by s k p e)
    where
      go : Refusing k ⊎ (FaultNumber k × (k ≡ 0 → ⊥)) → Accepting k → ⊥
      go (inl r) (inl z) = refusing-some k r z
      go (inl (inl i)) (inr z) = omega arith
      go (inl (inr (inl i))) (inr z) = omega arith
      go (inl (inr (inr (inl i)))) (inr z) = omega arith
      go (inl (inr (inr (inr (inl i))))) (inr z) = omega arith
      go (inl (inr (inr (inr (inr (inl i)))))) (inr z) = omega arith
      go (inl (inr (inr (inr (inr (inr i)))))) (inr z) = omega arith
      go (inr (f, n)) (inl z) = n z
      go (inr (inl o, n)) (inr z) = n o
      go (inr (inr (l, h), n)) (inr z) = omega arith

  answered-accepted : Accepting (number_in (write_of s room)) → (c : Carrier) × (rs : List Fields) × Accepted s c rs
  unfolding write_of
  answered-accepted = go (vet_of s) refl
    where
      records : (c : Carrier) (rs : List Fields) → vet_of s ≡ vetting.sheet c rs → (big : Bool) → any_large c rs ≡ big
          → Accepting (number_in (cond big (refuse refusal.large 0)
          (cond (ltb room (length (octets_of c rs))) (refuse refusal.room 0)
          (written (octets_of c rs)))))
          → Accepted s c rs
      records c rs e true b (inl a) = absurd (omega arith)
      records c rs e true b (inr a) = absurd (omega arith)
      records c rs e false b a = vetted-accepted s c rs octets e b

      go : (v : Vetted) → vet_of s ≡ v → Accepting (number_in (write_vetted v room)) → (c : Carrier) × (rs : List Fields) × Accepted s c rs
      go (vetting.refuse k p) e a = absurd (refused-not k p e a)
      go (vetting.sheet c rs) e a = (c, rs, records c rs e (any_large c rs) refl a)

  accepted-answered : (c : Carrier) (rs : List Fields) → Accepted s c rs → Accepting (number_in (write_of s room))
  accepted-answered c rs a = rw (accepted-writes s c rs room a) (go (ltb room (length (octets_of c rs))))
    where
      go : (b : Bool) → Accepting (number_in (cond b (refuse refusal.room 0) (written (octets_of c rs))))
      go true = inr refl
      go false = inl refl

  -- writing answers 0 or 5 exactly to the sheets that are accepted
  pub accepted-exactly : Accepting (number_in (write_of s room)) ↔ ((c : Carrier) × (rs : List Fields) × Accepted s c rs)
  accepted-exactly = (answered-accepted, λ a. accepted-answered a.0 a.1 a.2)

  -- so a sheet to which it answers so has accepted records
  pub answered-sheet : {c : Carrier} {rs : List Fields} → IsSheet s c rs → Accepting (number_in (write_of s room)) → Accepted s c rs
  answered-sheet {c} {rs} i a =
      let (d, qs, k) = answered-accepted a in
      let same = sheet-once s c d rs qs i k.is in
      record { is = i; sound = rw (same.0, same.1) k.sound }
