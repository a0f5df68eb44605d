-- What the findings are: the number told is that by which reading discards; spots are where the bodies stand; the place of an octet of joined data is that of
-- the octet itself; every place is in its body, fields stand where they are told to, and of faults 22 and 29 the place is the first that is bad. Assumes
-- nothing.
use Rattle.std.specs.Prelude.{◌≡◌, Bool, true, false, cond, ℕ, ◌+◌, ◌-◌, ◌≤◌, ◌<◌, eqb, drop}
use Rattle.std.proofs.Math.Path.{refl, ap}
use Rattle.std.proofs.Common.{sym, ap₂, ◌∙◌, subst, arith}
use mathlib.Core.List.{List, [], ◌∷◌, ◌++◌, map}
use Rattle.std.proofs.Math.ListN.{length, get_or}
use Rattle.octets.specs.Lists.{All, flat}
use Rattle.octets.specs.Numbers.{Bytes}
use Rattle.numbers.specs.Fault as fault
use Rattle.carriers.specs.declared.Carrier.{Carrier}
use Rattle.carriers.specs.declared.Carrier.TheVariants.{Dhcp4, Router}
use Rattle.names.specs.Names.{FirstBad}
use Rattle.frames.specs.Frame.{framed, frame}
use Rattle.blocks.specs.Block.{Fields, name_at}
use Rattle.blocks.specs.Parse.{bad, fields, parse}
use Rattle.blocks.specs.Holding.{Holds}
use Rattle.judge.specs.declared.Side.TheVariants.{Reading}
use Rattle.judge.specs.Place.{Judged}
use Rattle.judge.specs.Place.{judged}
use Rattle.judge.specs.Allowed.{NameAllowed}
use Rattle.records.specs.Records.{faulty}
use Rattle.records.specs.Yielded.{outcome_of}
use Rattle.reading.specs.Reading.{instances_from, joined_yield}
use Rattle.reading.specs.Result.{discarded}
use Rattle.written.specs.Wrong.{WrongName}
use Rattle.reasons.specs.Names.{name_reason}
use Rattle.findings.specs.Sheet.{sheet_reason}
use Rattle.findings.specs.SheetLaws as sheet
use Rattle.findings.specs.Troubles.{plain, padding_at, past_padding, laid_place, trouble_of, instances_trouble, joined_trouble}
use Rattle.findings.specs.Spots.{Spot, spots_of, place_in, place_of}
use Rattle.findings.specs.Told.{fault_in, block_fault, body_at, Lies, FirstUnpadded, FieldsStand}
use Rattle.findings.proofs.FaultLaws as faults
use Rattle.findings.specs.OctetLaws as octets
use Rattle.findings.specs.WithinLaws as within
use Rattle.findings.proofs.JoinedLaws as joined
use Rattle.findings.specs.PaddingLaws as padding
use Rattle.findings.specs.StandLaws as stand
use Rattle.findings.proofs.NameLaws as name

-- ---- numbers

pub trouble-fault : (c : Carrier) (b : List ℕ) → (trouble_of c b).fault ≡ fault_in (outcome_of c b)
trouble-fault = faults.trouble-fault

pub joined-fault : (b : List ℕ) → (joined_trouble b).fault ≡ block_fault (joined_yield b)
unfolding joined_trouble joined_yield
joined-fault b = go (eqb (length b) 0)
  where
    go : (t : Bool) → (cond t (plain fault.field 0) (instances_trouble 0 0 b)).fault
        ≡ block_fault (cond t (discarded (judged fault.field 0)) (instances_from 0 0 b))
    go true = refl
    go false = faults.instances-fault 0 0 b

-- ---- spots

-- where an area can be framed, the spots are where its bodies stand
pub spots-bodies : (c : Carrier) (area : List ℕ) (bs : List (List ℕ)) → frame c area ≡ framed bs → map (body_at area) (spots_of c area) ≡ bs
spots-bodies c area bs e = octets.spots-bodies c area e

module _ (area : List ℕ) (bs : List (List ℕ)) (e : frame Dhcp4 area ≡ framed bs) where
  -- the place of an octet of the joined data is that of the octet itself
  pub place-octet : (j : ℕ) → j < length (flat bs) → (get_or area (place_of area j) 0 ≡ get_or (flat bs) j 0) × (place_of area j < length area)
  unfolding place_of
  place-octet j h =
      let same : flat (map (body_at area) (spots_of Dhcp4 area)) ≡ flat bs = ap flat (octets.spots-bodies Dhcp4 area e) in
      let r = octets.octet-in area (spots_of Dhcp4 area) 0 j (octets.spots-lie Dhcp4 area) (subst (λ (l : List ℕ). j < length l) (sym same) h) in
      (r.0 ∙ ap (λ (l : List ℕ). get_or l j 0) same, r.1)

  -- and after them: the end of the last own option
  pub place_end : (bs ≡ [] → ⊥)
      → (front : List Spot) × (s : Spot) × (spots_of Dhcp4 area ≡ front ++ (s ∷ [])) × (place_of area (length (flat bs)) ≡ s.end)
  unfolding place_of
  place_end n = go (spots_of Dhcp4 area) refl
    where
      bodies : map (body_at area) (spots_of Dhcp4 area) ≡ bs
      bodies = octets.spots-bodies Dhcp4 area e

      -- the octets of all bodies, by the spots
      at-spots : (l : List Spot) → spots_of Dhcp4 area ≡ l
          → place_in (spots_of Dhcp4 area) 0 (length (flat bs)) ≡ place_in l 0 (length (flat (map (body_at area) l)))
      at-spots l q = ap₂ (λ (l : List Spot) (m : List (List ℕ)). place_in l 0 (length (flat m))) q (sym bodies ∙ ap (map (body_at area)) q)

      go : (l : List Spot) → spots_of Dhcp4 area ≡ l
          → (front : List Spot) × (s : Spot) × (spots_of Dhcp4 area ≡ front ++ (s ∷ [])) × (place_in (spots_of Dhcp4 area) 0 (length (flat bs)) ≡ s.end)
      go [] q = absurd (n (sym bodies ∙ ap (map (body_at area)) q))
      go (s ∷ ss) q =
          let l = octets.last_one s ss in
          let is = q ∙ l.2 in
          (l.0, l.1, is, at-spots (l.0 ++ (l.1 ∷ [])) is ∙ octets.end-in area l.0 l.1 0 (subst (All (Lies area)) is (octets.spots-lie Dhcp4 area)))

  pub place-within : (j : ℕ) → j ≤ length (flat bs) → place_of area j ≤ length area
  unfolding place_of
  place-within j h =
      octets.place-in-area area (spots_of Dhcp4 area) 0 j (octets.spots-lie Dhcp4 area) (omega arith)
      (subst (λ (m : List (List ℕ)). j ≤ length (flat m)) (sym (octets.spots-bodies Dhcp4 area e)) h)

-- ---- places

pub trouble-within : (c : Carrier) (b : List ℕ) → Bytes b → (trouble_of c b).at ≤ length b
trouble-within c b h = within.trouble-within b h c

pub joined-within : (b : List ℕ) → Bytes b → (joined_trouble b).at ≤ length b
joined-within = joined.joined-within

-- fields stand where they are told to, and the addresses are as many octets as is said where their length is told to stand (RULES B1)
pub fields-stand : (c : Carrier) (b : List ℕ) (f : Fields) → Bytes b → parse c b ≡ fields f → FieldsStand c b f
fields-stand = stand.fields-stand

-- fault 22: the place is that of the first bad octet of the name (RULES N5)
pub name-place : (c : Carrier) (b : List ℕ) (f : Fields) → parse c b ≡ fields f → (trouble_of c b).fault ≡ fault.name
    → (place : ℕ) × ((trouble_of c b).at ≡ name_at c (length f.addresses) + place) × FirstBad (NameAllowed Reading c) f.name place
name-place = name.name-place

-- and the place that reading gives back with the fault (RULES W11)
pub trouble-place : (c : Carrier) (b : List ℕ) (j : Judged) → outcome_of c b ≡ faulty j → j.fault ≡ fault.name → (trouble_of c b).at ≡ j.place
trouble-place = name.trouble-place

pub joined-place : (b : List ℕ) (j : Judged) → joined_yield b ≡ discarded j → j.fault ≡ fault.name → (joined_trouble b).at ≡ j.place
joined-place = name.joined-place

-- and in a sheet that is refused for a name, what is told is why that name is bad at its first bad octet (RULES T8)
pub sheet-why : (s : List ℕ) (p : ℕ) (w : WrongName s p) → sheet_reason s p ≡ name_reason false w.wrong.name (p - w.start)
sheet-why = sheet.sheet-why

-- carrier 3, fault 29: what follows the fields begins with so much padding, and the place is after it
pub padding-place : (b : List ℕ) → Bytes b → parse Router b ≡ bad fault.padding
    → let rest : List ℕ = drop (padding_at b) b in
    ((f : Fields) × Holds Router b f rest) × FirstUnpadded rest (past_padding 0 rest) × ((trouble_of Router b).at ≡ padding_at b + past_padding 0 rest)
unfolding trouble_of laid_place
padding-place b h e = (within.padding-fields b h e, padding.first-unpadded _ (within.padding-none b h e), rw e)
