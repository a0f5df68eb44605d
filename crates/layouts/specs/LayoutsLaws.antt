-- How many octets a record takes in each carrier, and that a record that can be written fits its carrier. Assumes nothing.
use Rattle.std.specs.Prelude.{◌≡◌, refl, Bool, true, false, cond, List, [], ◌∷◌, ℕ, ◌+◌, ◌-◌, ◌*◌, ◌/◌, ◌%◌, ◌≤◌, ◌<◌, length}
use Rattle.std.proofs.Common.{ap, ap₂, ◌∙◌, true≢false, append-nil, arith, length-append}
use Rattle.numbers.specs.Limit as limit
use Rattle.carriers.specs.declared.Carrier.{Carrier}
use Rattle.carriers.specs.declared.Carrier.TheVariants.{Dhcp4, Router}
use Rattle.carriers.specs.declared.Form.{Form}
use Rattle.carriers.specs.declared.Form.TheVariants.{Wire, Padded, Text}
use Rattle.carriers.specs.Carriers.{header_of, is_joined, address_width, form_of, text_in, as_text, Plain}
use Rattle.carriers.proofs.CarriersLaws.{headed, by_address, length-width, few-addresses, length-room, by-router}
use Rattle.texts.specs.Convert.{text-length}
use Rattle.blocks.specs.Block.{Fields, layout, unpadded, size_by, FitsBy, Fits}
use Rattle.blocks.specs.Sizes.{length-layout, layout-possible, fits-full}
use Rattle.frames.specs.Emit as emit
use Rattle.frames.proofs.EmitLaws.{option-length}
use Rattle.frames.specs.WalkLaws.{apart-false}
use Rattle.layouts.specs.Layouts.{carried_as, carried_of, own_option, instance_of, joined_of}
use Rattle.layouts.specs.Writable.{Writable, overhead, most_addresses, most_body, body_by, body_octets, option_octets, instance_octets, joined_octets}

pub header-small : (c : Carrier) → header_of c ≤ 4
header-small c = omega (arith, (headed c).few)

-- ---- octets

pub body-length : (c : Carrier) (r : Fields)
    → length (layout c (carried_of c r)) ≡ body_octets c r.full (length r.name) (length r.addresses) (length r.parameters)
body-length c r =
    length-layout c (carried_of c r)
    ∙ ap (λ (n : ℕ). size_by (form_of c) c r.full n (length r.addresses) (length r.parameters)) (carried (as_text c))
  where
    carried : (text : Bool) → length (carried_as text r).name ≡ cond text (length r.name - 2) (length r.name)
    carried true = text-length r.name
    carried false = refl

pub own-length : (c : Carrier) (r : Fields)
    → length (own_option c r) ≡ option_octets c r.full (length r.name) (length r.addresses) (length r.parameters)
own-length c r = option-length c (layout c (carried_of c r)) ∙ ap (λ (n : ℕ). header_of c + n) (body-length c r)

pub instance-length : (r : Fields) → length (instance_of r) ≡ instance_octets r.full (length r.name) (length r.addresses) (length r.parameters)
instance-length r = rw (append-nil (layout Dhcp4 r)) (omega (arith, body-length Dhcp4 r))

pub joined_length : (rs : List Fields) → length (joined_of rs) ≡ joined_octets rs
joined_length [] = refl
joined_length (r ∷ rs) = length-append (instance_of r) (joined_of rs) ∙ ap₂ (λ (m n : ℕ). m + n) (instance-length r) (joined_length rs)

-- before the padding of carrier 3
pub unpadded-small : (full : Bool) (n a p : ℕ) → unpadded full n a p ≤ overhead + (n + a + p)
unpadded-small true n a p = omega arith
unpadded-small false n a p = omega arith

pub body-small : (c : Carrier) (full : Bool) (n a p : ℕ) → body_octets c full n a p ≤ overhead + (n + a + p)
body-small c full n a p = go (form_of c) full
  where
    go : (k : Form) (full : Bool) → body_by k c full n a p ≤ overhead + (n + a + p)
    go Wire true = omega (arith, length-width c)
    go Wire false = omega (arith, length-width c)
    go Padded true = omega arith
    go Padded false = omega arith
    go Text full = omega arith

-- ---- records that can be written

whole-addresses : (c : Carrier) (n : ℕ) → 0 < n → n % address_width c ≡ 0 → (0 < n / address_width c) × (n ≡ n / address_width c * address_width c)
whole-addresses c n h = by_address (λ w. n % w ≡ 0 → (0 < n / w) × (n ≡ n / w * w)) (λ e. (omega arith, omega arith)) (λ e. (omega arith, omega arith)) c

carried-name : (text : Bool) (r : Fields) → length (carried_as text r).name ≤ length r.name
carried-name true r = rw text-length (omega arith)
carried-name false r = omega arith

fits-named : (c : Carrier) (r : Fields) → Writable c r → r.full ≡ false → Fits c (carried_of c r)
fits-named c r h e =
    let k = h.name_only e in
    record {
      priority = h.priority;
      lifetime = h.lifetime;
      name = length-room (length (carried_of c r).name) (omega (arith, carried-name (as_text c) r, h.short)) c;
      tail = go (form_of c) k.2;
    }
  where
    go : (k : Form) → text_in k ≡ false → FitsBy k c (carried_as (text_in k) r)
    go Wire x = let k = h.name_only e in rw e (k.0, k.1)
    go Padded x = let k = h.name_only e in rw e (k.0, k.1)
    go Text x = absurd (true≢false x)

module _ (c : Carrier) (r : Fields) (h : Writable c r) where
  -- it has room in its fields
  pub writable-fits : Fits c (carried_of c r)
  writable-fits = go r.full refl
    where
      go : (full : Bool) → r.full ≡ full → Fits c (carried_of c r)
      go true e =
          let t = h.tail e in
          let k = whole-addresses c (length r.addresses) t.some t.whole in
          let n : length (carried_of c r).name < 256 = omega (arith, carried-name (as_text c) r, h.short) in
          fits-full (carried_of c r) (length r.addresses / address_width c) e h.priority n k.0 t.few t.short c h.lifetime k.1
      go false e = fits-named c r h e

  pub writable-small : (length r.addresses ≤ most_addresses) × (length r.parameters ≤ limit.parameters)
  writable-small = go r.full refl
    where
      go : (full : Bool) → r.full ≡ full → (length r.addresses ≤ most_addresses) × (length r.parameters ≤ limit.parameters)
      go true e = let t = h.tail e in (few-addresses c limit.addresses (length r.addresses) t.whole t.few, t.short)
      go false e = let k = h.name_only e in rw (k.0, k.1) (omega arith, omega arith)

  -- so has its body
  pub writable-body : length (layout c (carried_of c r)) ≤ most_body
  writable-body = rw (body-length c r) (omega (arith, body-small c r.full (length r.name) (length r.addresses) (length r.parameters), writable-small, h.short))

-- in carriers 2 to 5 its option can be framed
pub writable-emits : (c : Carrier) (r : Fields) → Plain c → Writable c r → emit.Fits c (layout c (carried_of c r))
writable-emits c r =
    by-router (λ c. Plain c → Writable c r → emit.Fits c (layout c (carried_of c r)))
    (λ p h. (layout-possible Router (carried_of Router r), rw (body-length Router r) (omega (arith, h.units refl))))
    (λ c z n p h. rw (n, (headed c).wide (apart-false (is_joined c) p) n) (omega (arith, writable-body c r h)))
    c
