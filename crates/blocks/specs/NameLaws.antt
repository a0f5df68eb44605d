-- The name stands in a body where `name_at` says. Assumes nothing.
use Rattle.std.specs.Prelude.{◌≡◌, true, false, List, ◌++◌, ℕ, ◌+◌, ◌≤◌, length, drop}
use Rattle.std.proofs.Math.Path.{refl}
use Rattle.std.proofs.Common.{sym, ap, ◌∙◌, arith, length-append}
use Rattle.octets.specs.Lists.{Stands}
use Rattle.octets.specs.ListsLaws.{stands-begins, drop-onward}
use Rattle.octets.specs.Numbers.{be}
use Rattle.octets.specs.NumbersLaws.{length-be}
use Rattle.carriers.specs.declared.Carrier.{Carrier}
use Rattle.carriers.specs.declared.Form.{Form}
use Rattle.carriers.specs.declared.Form.TheVariants.{Wire, Padded, Text}
use Rattle.carriers.specs.Carriers.{form_of, length_width, lifetime_width, text_in, as_text}
use Rattle.carriers.proofs.CarriersLaws.{text-width}
use Rattle.blocks.specs.Block.{Fields, layout_by, layout, put_opening, put_attribute, put_after_name, put_after_name_padded, name_at}
use Rattle.blocks.specs.Holding.{Laid}

-- ---- carriers 1 to 3: after priority, lifetime and ADN length

module _ (c : Carrier) (b : List ℕ) (f : Fields) where
  pub opening-name : (l : List ℕ) → b ≡ put_opening c f l → drop (2 + lifetime_width c + length_width c) b ≡ f.name ++ l
  opening-name l h =
      let v : ℕ = lifetime_width c in
      let w : ℕ = length_width c in
      let n : ℕ = length f.name in
      let counted : List ℕ = be w n ++ (f.name ++ l) in
      let first : drop 2 b ≡ be v f.lifetime ++ counted =
      drop-onward (be 2 f.priority) (be v f.lifetime ++ counted) b 0 h 2 (length-be 2 f.priority) in
      let second : drop (2 + v) b ≡ counted = drop-onward (be v f.lifetime) counted b 2 first v (length-be v f.lifetime) in
      drop-onward (be w n) (f.name ++ l) b (2 + v) second w (length-be w n)

  -- ---- carriers 4 and 5: after priority, number of addresses, ADN length and addresses

  pub attribute-addresses : as_text c ≡ true → b ≡ put_attribute c f → drop 4 b ≡ f.addresses ++ (f.name ++ f.parameters)
  attribute-addresses t h =
      let named : List ℕ = f.name ++ f.parameters in
      let n : ℕ = length f.name in
      let front : drop 3 b ≡ be (length_width c) n ++ (f.addresses ++ named) = ap (drop 3) h in
      drop-onward (be (length_width c) n) (f.addresses ++ named) b 3 front 1 (length-be (length_width c) n ∙ text-width c t)

  pub attribute-name : as_text c ≡ true → b ≡ put_attribute c f → drop (4 + length f.addresses) b ≡ f.name ++ f.parameters
  attribute-name t h = drop-onward f.addresses (f.name ++ f.parameters) b 4 (attribute-addresses t h) (length f.addresses) refl

  -- ---- where the name stands

  pub name-wire : as_text c ≡ false → (m : ℕ) → 2 + lifetime_width c + length_width c ≡ name_at c m
  name-wire t m = simp t

  pub name-text : as_text c ≡ true → (m : ℕ) → 4 + m ≡ name_at c m
  name-text t m = simp t

  -- what is left of the body there is the name and what follows it
  pub record NamedThere : Type 0 where
    pub rest : List ℕ
    pub left : drop (name_at c (length f.addresses)) b ≡ f.name ++ rest
    pub whole : name_at c (length f.addresses) + length f.name ≤ length b

  pub opening-there : as_text c ≡ false → (l : List ℕ) → b ≡ put_opening c f l → NamedThere
  opening-there t l h =
      let at : 2 + lifetime_width c + length_width c ≡ name_at c (length f.addresses) = name-wire t (length f.addresses) in
      let counted : List ℕ = be (length_width c) (length f.name) ++ (f.name ++ l) in
      record {
        rest = l;
        left = ap (λ (i : ℕ). drop i b) (sym at) ∙ opening-name l h;
        whole = omega (
          arith,
          at,
          ap length h,
          length-append (be (lifetime_width c) f.lifetime) counted,
          length-be (lifetime_width c) f.lifetime,
          length-append (be (length_width c) (length f.name)) (f.name ++ l),
          length-be (length_width c) (length f.name),
          length-append f.name l,
        );
      }

  pub attribute-there : as_text c ≡ true → b ≡ put_attribute c f → NamedThere
  attribute-there t h =
      let at : 4 + length f.addresses ≡ name_at c (length f.addresses) = name-text t (length f.addresses) in
      let named : List ℕ = f.name ++ f.parameters in
      record {
        rest = f.parameters;
        left = ap (λ (i : ℕ). drop i b) (sym at) ∙ attribute-name t h;
        whole = omega (
          arith,
          at,
          ap length h,
          length-append (be (length_width c) (length f.name)) (f.addresses ++ named),
          length-be (length_width c) (length f.name),
          text-width c t,
          length-append f.addresses named,
          length-append f.name f.parameters,
        );
      }

  by_form : (k : Form) → form_of c ≡ k → b ≡ layout_by k c f → NamedThere
  by_form Wire e h = opening-there (ap text_in e) (put_after_name c f) h
  by_form Padded e h = opening-there (ap text_in e) (put_after_name_padded f) h
  by_form Text e h = attribute-there (ap text_in e) h

  pub name-there : Laid c b f → NamedThere
  unfolding layout
  name-there h = by_form (form_of c) refl h.0

  -- the name stands in the body from there on
  pub there-stands : NamedThere → Stands f.name (name_at c (length f.addresses)) b
  there-stands there = stands-begins f.name there.rest b (name_at c (length f.addresses)) there.left

  pub name-stands : Laid c b f → Stands f.name (name_at c (length f.addresses)) b
  name-stands h = there-stands (name-there h)
