-- The fields of a body stand at the places that are told for them, and the address length says the addresses. Assumes nothing.
use Rattle.std.specs.Prelude.{◌≡◌, refl, true, false, ℕ, ◌+◌, ◌*◌, ◌/◌, ◌%◌, ◌^◌, ◌<◌, length, get_or, take, drop}
use Rattle.std.proofs.Common.{sym, ◌∙◌, subst, arith, take_at}
use Rattle.std.proofs.Math.Path.{ap}
use mathlib.Core.List.{List, [], ◌++◌, append-nil}
use Rattle.octets.specs.Lists.{Stands}
use Rattle.octets.specs.ListsLaws.{stands-begins, drop-onward, stands_at}
use Rattle.octets.specs.Numbers.{be, val, number_at, Bytes}
use Rattle.octets.specs.NumbersLaws.{length-be, val-be}
use Rattle.octets.specs.Fields.{put_counted}
use Rattle.carriers.specs.declared.Carrier.{Carrier}
use Rattle.carriers.specs.declared.Carrier.TheVariants.{Router}
use Rattle.carriers.specs.declared.Form.{Form}
use Rattle.carriers.specs.declared.Form.TheVariants.{Wire, Padded, Text}
use Rattle.carriers.specs.Carriers.{form_of, length_width, lifetime_in, lifetime_width, address_width, text_in, as_text}
use Rattle.carriers.proofs.CarriersLaws.{padded-router, by_address}
use Rattle.blocks.specs.Block.{Fields, layout_by, layout, put_opening, put_after_name, put_attribute, FitsNamed, FitsAttribute, FitsBy, Fits}
use Rattle.blocks.specs.Parse.{fields, parse}
use Rattle.blocks.specs.Holding.{Laid, put_tail, HoldsPadded, HoldsBy}
use Rattle.blocks.specs.NameLaws.{opening-name, attribute-addresses, attribute-name, opening-there, attribute-there, there-stands}
use Rattle.findings.specs.Troubles.{address_length_at, addresses_at}
use Rattle.findings.specs.Told.{addresses_said, FieldsStand}
use Rattle.findings.specs.PlacesLaws.{name-wire, length-text, length-wire, addresses-text, addresses-wire, parameters-text, parameters-wire, parameters-padded}
use Rattle.findings.specs.SizesLaws.{parse-holds}

-- what is said at a place, by the carrier
module _ (c : Carrier) (b : List ℕ) {i j v : ℕ} (e : i ≡ j) where
  said-wire : as_text c ≡ false → number_at (length_width c) i b ≡ v → addresses_said c j b ≡ v
  said-wire t h = simp (t, ← e, h)

  said-text : as_text c ≡ true → get_or b i 0 * address_width c ≡ v → addresses_said c j b ≡ v
  said-text t h = simp (t, ← e, h)

-- ---- carriers 1 to 3: the name after priority, lifetime and ADN length, the addresses after their length

module _ (c : Carrier) (b : List ℕ) (f : Fields) (t : as_text c ≡ false) where
  abbrev v : ℕ
  v = lifetime_width c

  abbrev w : ℕ
  w = length_width c

  abbrev n : ℕ
  n = length f.name

  abbrev m : ℕ
  m = length f.addresses

  at_length : (l : List ℕ) → b ≡ put_opening c f (put_counted w f.addresses l) → drop (2 + v + w + n) b ≡ put_counted w f.addresses l
  at_length l h = let counted : List ℕ = put_counted w f.addresses l in drop-onward f.name counted b (2 + v + w) (opening-name c b f counted h) n refl

  at-addresses : (l : List ℕ) → b ≡ put_opening c f (put_counted w f.addresses l) → drop (2 + v + w + n + w) b ≡ f.addresses ++ l
  at-addresses l h = drop-onward (be w m) (f.addresses ++ l) b (2 + v + w + n) (at_length l h) w (length-be w m)

  length-is : 2 + v + w + n ≡ address_length_at c n
  length-is = length-wire c refl n t (name-wire c refl 0 t refl refl)

  length-said : (l : List ℕ) → b ≡ put_opening c f (put_counted w f.addresses l) → m < 256 ^ w → addresses_said c (address_length_at c n) b ≡ m
  unfolding number_at
  length-said l h room =
      let number : number_at w (2 + v + w + n) b ≡ m =
      ap (λ (l : List ℕ). val (take w l)) (at_length l h) ∙ ap val (take_at (be w m) (f.addresses ++ l) w (length-be w m)) ∙ val-be w m room in
      said-wire c b length-is t number

  addresses-is : 2 + v + w + n + w ≡ addresses_at c n
  addresses-is = addresses-wire c refl n t length-is refl

  addresses-stand : (l : List ℕ) → b ≡ put_opening c f (put_counted w f.addresses l) → Stands f.addresses (addresses_at c n) b
  addresses-stand l h = stands_at f.addresses b addresses-is (stands-begins f.addresses l b (2 + v + w + n + w) (at-addresses l h))

  -- what follows them: the parameters, or in carrier 3 their length
  after-addresses : (l : List ℕ) → b ≡ put_opening c f (put_counted w f.addresses l) → drop (addresses_at c n + m) b ≡ l
  after-addresses l h =
      ap (λ (i : ℕ). drop (i + m) b) (sym addresses-is) ∙ drop-onward f.addresses l b (2 + v + w + n + w) (at-addresses l h) m refl

wire-stand : (c : Carrier) (b : List ℕ) (f : Fields) → form_of c ≡ Wire → b ≡ put_opening c f (put_after_name c f) → FitsNamed c f → FieldsStand c b f
wire-stand c b f e h fits =
    let t : as_text c ≡ false = ap text_in e in
    let full : f.full ≡ true → b ≡ put_opening c f (put_counted (length_width c) f.addresses f.parameters) = λ u.
    h ∙ ap (put_opening c f) (simp u) in
    record {
      name = there-stands c b f (opening-there c b f t (put_after_name c f) h);
      address_length = λ u. length-said c b f t f.parameters (full u) (rw u at fits);
      addresses = λ u. addresses-stand c b f t f.parameters (full u);
      parameters = λ u.
          stands_at f.parameters b (parameters-wire c refl (length f.name) (length f.addresses) t refl refl (ap lifetime_in e))
          (stands-begins f.parameters [] b (addresses_at c (length f.name) + length f.addresses)
          (after-addresses c b f t f.parameters (full u) ∙ sym (append-nil f.parameters)));
    }

padded-stand : (b : List ℕ) (f : Fields) (rest : List ℕ) → HoldsPadded b f rest → FieldsStand Router b f
padded-stand b f rest h =
    let q : List ℕ = put_counted 2 f.parameters rest in
    let at : ℕ = addresses_at Router (length f.name) + length f.addresses in
    let full : f.full ≡ true → b ≡ put_opening Router f (put_counted 2 f.addresses q) = λ u. h.laid ∙ ap (put_opening Router f) (simp u) in
    record {
      name = there-stands Router b f (opening-there Router b f refl (put_tail f rest) h.laid);
      address_length = λ u.
          let room : (length f.addresses < 256 ^ 2) × (length f.parameters < 256 ^ 2) = rw u at h.tail in
          length-said Router b f refl q (full u) room.0;
      addresses = λ u. addresses-stand Router b f refl q (full u);
      parameters = λ u.
          let after : drop at b ≡ q = after-addresses Router b f refl q (full u) in
          let next : drop (at + 2) b ≡ f.parameters ++ rest =
          drop-onward (be 2 (length f.parameters)) (f.parameters ++ rest) b at after 2 (length-be 2 (length f.parameters)) in
          stands_at f.parameters b (parameters-padded Router refl (length f.name) (length f.addresses) refl refl refl (λ z. omega arith))
          (stands-begins f.parameters rest b (at + 2) next);
    }

-- ---- carriers 4 and 5

-- whole addresses are as many octets as their number says
whole-said : (m : ℕ) (c : Carrier) → m % address_width c ≡ 0 → m / address_width c < 256 → m / address_width c % 256 * address_width c ≡ m
whole-said m = by_address (λ w. m % w ≡ 0 → m / w < 256 → m / w % 256 * w ≡ m) (λ h k. omega arith) (λ h k. omega arith)

text-stand : (c : Carrier) (b : List ℕ) (f : Fields) → form_of c ≡ Text → b ≡ put_attribute c f → FitsAttribute c f → FieldsStand c b f
text-stand c b f e h fits =
    let t : as_text c ≡ true = ap text_in e in
    let m : ℕ = length f.addresses in
    let n : ℕ = length f.name in
    let said : get_or b 2 0 * address_width c ≡ m =
    ap (λ (l : List ℕ). get_or l 2 0 * address_width c) h ∙ whole-said m c fits.1 fits.2 in
    let after : drop (4 + m + n) b ≡ f.parameters = drop-onward f.name f.parameters b (4 + m) (attribute-name c b f t h) n refl in
    record {
      name = there-stands c b f (attribute-there c b f t h);
      address_length = λ _. said-text c b (length-text c refl n t) t said;
      addresses = λ _. stands_at f.addresses b (addresses-text c refl n t) (stands-begins f.addresses (f.name ++ f.parameters) b 4 (attribute-addresses c b f t h));
      parameters = λ _.
          stands_at f.parameters b (parameters-text c refl n m t) (stands-begins f.parameters [] b (4 + m + n) (after ∙ sym (append-nil f.parameters)));
    }

-- ---- every carrier

laid_by : (c : Carrier) (b : List ℕ) (f : Fields) (k : Form) → form_of c ≡ k → Laid c b f → b ≡ layout_by k c f
unfolding layout
laid_by c b f k e h = h.0 ∙ ap (λ (k : Form). layout_by k c f) e

fits_by : (c : Carrier) (f : Fields) (k : Form) → form_of c ≡ k → Fits c f → FitsBy k c f
fits_by c f k e h = subst (λ (k : Form). FitsBy k c f) e h.tail

holds-stand : (k : Form) (c : Carrier) (b : List ℕ) (f : Fields) (rest : List ℕ) → form_of c ≡ k → HoldsBy k c b f rest → FieldsStand c b f
holds-stand Wire c b f rest e h = wire-stand c b f e (laid_by c b f Wire e h.0) (fits_by c f Wire e h.0.1)
holds-stand Padded c b f rest e h = subst (λ (c : Carrier). FieldsStand c b f) (sym (padded-router c e)) (padded-stand b f rest h)
holds-stand Text c b f rest e h = text-stand c b f e (laid_by c b f Text e h.0) (fits_by c f Text e h.0.1)

pub fields-stand : (c : Carrier) (b : List ℕ) (f : Fields) → Bytes b → parse c b ≡ fields f → FieldsStand c b f
fields-stand c b f h e = let k = parse-holds c b f h e in holds-stand (form_of c) c b f k.0 refl k.1
