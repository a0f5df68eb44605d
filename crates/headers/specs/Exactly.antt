-- An area of values with their headers is framed as exactly those values (RULES E2, E3, W4 to W8). Assumes nothing.
use Rattle.std.specs.Prelude.{◌≡◌, refl, Bool, false, cond, List, [], ◌∷◌, ◌++◌, map, ℕ, ◌<◌, length}
use Rattle.std.proofs.Common.{sym, ap, ◌∙◌, arith, length-append}
use Rattle.octets.specs.Lists.{All, flat}
use Rattle.octets.specs.ListsLaws.{flat_append, flat_map_append, all_append}
use Rattle.carriers.specs.declared.Carrier.{Carrier}
use Rattle.carriers.specs.declared.Carrier.TheVariants.{Dhcp4}
use Rattle.carriers.specs.Carriers.{is_joined}
use Rattle.carriers.proofs.CarriersLaws.{by-joined}
use Rattle.frames.specs.Frame.{frame}
use Rattle.frames.specs.Area.{joined}
use Rattle.frames.specs.Emit.{option_of, Fits, options_of}
use Rattle.frames.proofs.EmitLaws.{frame-options}
use Rattle.pieces.specs.Pieces.{pieces, cut_of}
use Rattle.pieces.specs.PiecesLaws.{pieces-fit, pieces-flat}
use Rattle.headers.specs.Headers.{padded_of, Held, area_of, Framed}
use Rattle.headers.specs.HeadersLaws.{padded-fits}

-- ---- carrier 1

cut-options : (vs : List (List ℕ)) → flat (map cut_of vs) ≡ options_of Dhcp4 (flat (map pieces vs))
unfolding cut_of
cut-options [] = refl
cut-options (v ∷ vs) =
    ap (λ (r : List ℕ). options_of Dhcp4 (pieces v) ++ r) (cut-options vs) ∙ sym (flat_map_append (option_of Dhcp4) (pieces v) (flat (map pieces vs)))

all_fit : (vs : List (List ℕ)) → All (Fits Dhcp4) (flat (map pieces vs))
all_fit [] = tt
all_fit (v ∷ vs) = all_append (Fits Dhcp4) (pieces v) (flat (map pieces vs)) (pieces-fit v) (all_fit vs)

all-flat : (vs : List (List ℕ)) → flat (flat (map pieces vs)) ≡ flat vs
all-flat [] = refl
all-flat (v ∷ vs) =
    flat_append (pieces v) (flat (map pieces vs)) ∙ ap (λ (r : List ℕ). r ++ flat (flat (map pieces vs))) (pieces-flat v)
    ∙ ap (λ (r : List ℕ). v ++ r) (all-flat vs)

joined-some : (bs : List (List ℕ)) → 0 < length (flat bs) → joined bs ≡ flat bs ∷ []
joined-some [] h = absurd (omega arith)
joined-some (b ∷ bs) h = refl

-- with no values there are no pieces; with some there are octets
pieces-joined : (vs : List (List ℕ)) → All (Held Dhcp4) vs → joined (flat (map pieces vs)) ≡ joined vs
pieces-joined [] h = refl
pieces-joined (v ∷ vs) h =
    let e : flat (flat (map pieces (v ∷ vs))) ≡ flat (v ∷ vs) = all-flat (v ∷ vs) in
    let some : 0 < length (flat (v ∷ vs)) = rw (length-append v (flat vs)) (omega (arith, h.0.0)) in
    joined-some (flat (map pieces (v ∷ vs))) (rw e some) ∙ ap (λ (l : List ℕ). l ∷ []) e

-- ---- the other carriers

module _ (c : Carrier) (apart : is_joined c ≡ false) where
  area-options : (vs : List (List ℕ)) → area_of c vs ≡ options_of c (map (padded_of c) vs)
  area-options [] = refl
  area-options (v ∷ vs) =
      ap (λ (j : Bool). cond j (cut_of v) (option_of c (padded_of c v)) ++ area_of c vs) apart
      ∙ ap (λ (r : List ℕ). option_of c (padded_of c v) ++ r) (area-options vs)

  values-fit : (vs : List (List ℕ)) → All (Held c) vs → All (Fits c) (map (padded_of c) vs)
  values-fit [] h = tt
  values-fit (v ∷ vs) h = (padded-fits c v apart h.0.1, values-fit vs h.1)

-- ---- all of them

pub headed-exactly : (c : Carrier) (vs : List (List ℕ)) → All (Held c) vs → Framed c vs
headed-exactly = by-joined (λ c. (vs : List (List ℕ)) → All (Held c) vs → Framed c vs) cut other
  where
    cut : (vs : List (List ℕ)) → All (Held Dhcp4) vs → Framed Dhcp4 vs
    cut vs h = record {
      bodies = flat (map pieces vs);
      frames = ap (frame Dhcp4) (cut-options vs) ∙ frame-options Dhcp4 (flat (map pieces vs)) (all_fit vs);
      blocks = pieces-joined vs h;
    }

    other : (c : Carrier) → is_joined c ≡ false → (vs : List (List ℕ)) → All (Held c) vs → Framed c vs
    other c apart vs h =
        let bs : List (List ℕ) = map (padded_of c) vs in
        record {
          bodies = bs;
          frames = ap (frame c) (area-options c apart vs) ∙ frame-options c bs (values-fit c apart vs h);
          blocks = ap (λ (j : Bool). cond j (joined bs) bs) apart ∙ sym (ap (λ (j : Bool). cond j (joined vs) bs) apart);
        }
