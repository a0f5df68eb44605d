-- What the functions that write a record's parts ask of each other, and how the parts make a layout. Assumes nothing.
use Rattle.std.specs.Prelude.{◌≡◌, refl, Bool, cond, List, ◌∷◌, ◌++◌, ℕ, zero, suc, ◌+◌, ◌-◌, ◌/◌, ◌^◌, ◌≤◌, ◌<◌, length, take}
use Rattle.std.proofs.Common.{sym, ◌∙◌, subst, append_assoc, append-nil, arith, length-append}
use Rattle.std.proofs.Math.Path.{ap}
use Rattle.std.proofs.Math.Bool.{true, false}
use Rattle.octets.specs.Numbers.{be, zeros}
use Rattle.octets.specs.NumbersLaws.{length-be}
use Rattle.octets.specs.Fields.{put_counted}
use Rattle.octets.specs.Over.{Wrote}
use Rattle.octets.specs.OverLaws.{over-length, then}
use Rattle.carriers.specs.declared.Carrier.{Carrier}
use Rattle.carriers.specs.declared.Carrier.TheVariants.{Dhcp4, Router}
use Rattle.carriers.specs.declared.Form.{Form}
use Rattle.carriers.specs.declared.Form.TheVariants.{Text}
use Rattle.carriers.specs.Carriers.{address_width, length_width, form_of, text_in, as_text}
use Rattle.texts.specs.Texts.{text_of}
use Rattle.texts.specs.Convert.{text-length}
use Rattle.blocks.specs.Block.{Fields, put_after_name, padding_of, layout_by, layout, FitsBy, Fits}
use Rattle.frames.specs.Emit.{head_of}
use Rattle.blocks.specs.Parts.{Named}
use Rattle.blocks.specs.Sizes.{length-layout}
use Rattle.carriers.proofs.CarriersLaws.{length-width, text-width, wire-form, text-form}
use Rattle.layouts.specs.Layouts.{carried_as, carried_of, own_option, instance_of}
use Rattle.layouts.specs.Writable.{body_by, body_octets}
use Rattle.layouts.specs.LayoutsLaws.{body-length}

-- the first of some zeros are zeros
pub take-zeros : (n m : ℕ) → n ≤ m → take n (zeros m) ≡ zeros n
take-zeros zero m h = refl
take-zeros (suc n) zero h = absurd (omega arith)
take-zeros (suc n) (suc m) h = ap (λ (l : List ℕ). 0 ∷ l) (take-zeros n m (omega arith))

-- octets after their count, and then more
then-counted : (w : ℕ) (x b : List ℕ) {at r r' : ℕ} {l l' l'' : List ℕ} → Wrote at (be w (length x) ++ x) l r l' → Wrote r b l' r' l'' → Wrote at (put_counted w x b) l r' l''
then-counted w x b v u = rw (← (append_assoc (be w (length x)) x b)) (then v u)

counted-length : (w : ℕ) (x l : List ℕ) → length (put_counted w x l) ≡ w + length x + length l
counted-length w x l = simp (length-append, length-be) (omega arith)

pub counted-size : (w : ℕ) (x : List ℕ) → length (be w (length x) ++ x) ≡ w + length x
counted-size w x = simp (length-append, length-be)

-- what is written leaves room for what is to come
room_after : {at r : ℕ} {bs l l' : List ℕ} (m : ℕ) → Wrote at bs l r l' → at + (length bs + m) ≤ length l → r + m ≤ length l'
room_after {at} {r} {bs} {l} m w h =
    let same = ap length w.laid ∙ over-length at bs l w.room in
    omega (arith, w.next)

-- ---- carriers 1 and 2

named-layout : (c : Carrier) (r : Fields) → Named c → layout c r ≡ be 2 r.priority ++ put_counted (length_width c) r.name (put_after_name c r)
unfolding layout
named-layout c r h =
    ap (λ (k : Form). layout_by k c r) (wire-form (form_of c) h.0 h.1)
    ∙ ap (λ (t : ℕ). be 2 r.priority ++ (be t r.lifetime ++ put_counted (length_width c) r.name (put_after_name c r))) h.0

-- in the full form the length of the addresses has room in its field
named-asks : (c : Carrier) (r : Fields) → Named c → Fits c r → r.full ≡ true → length r.addresses < 256 ^ length_width c
named-asks c r h f e = let t = subst (λ (k : Form). FitsBy k c r) (wire-form (form_of c) h.0 h.1) f.tail in rw e at t

-- with lengths of w octets
module _ (c : Carrier) (r : Fields) (w : ℕ) (named : Named c) (is : w ≡ length_width c) where
  pub name-asks : Fits c r → (0 < w) × (w ≤ 2) × (length r.name < 256 ^ w)
  name-asks f = rw is ((length-width c).0, (length-width c).1, f.name)

  pub addresses-ask : Fits c r → r.full ≡ true → (0 < w) × (w ≤ 2) × (length r.addresses < 256 ^ w)
  addresses-ask f e = rw is ((length-width c).0, (length-width c).1, named-asks c r named f e)

  pub named-full : r.full ≡ true → length (layout c r) ≡ 2 + w + length r.name + w + length r.addresses + length r.parameters
  named-full e = rw (named-layout c r named, e, ← is) (omega (arith, counted-length w r.name (put_counted w r.addresses r.parameters), counted-length w r.addresses r.parameters))

  pub named-least : 2 + w + length r.name ≤ length (layout c r)
  named-least = rw (named-layout c r named) (omega (arith, is, counted-length (length_width c) r.name (put_after_name c r)))

  -- what follows the addresses has room
  pub after-addresses-room : {at i j k : ℕ} {l l₁ l₂ l₃ : List ℕ} → r.full ≡ true → Wrote at (be 2 r.priority) l i l₁
      → Wrote i (be w (length r.name) ++ r.name) l₁ j l₂ → Wrote j (be w (length r.addresses) ++ r.addresses) l₂ k l₃
      → at + length (layout c r) ≤ length l → k + length r.parameters ≤ length l₃
  after-addresses-room e x y z h =
      let a : List ℕ = be w (length r.name) ++ r.name in
      let b : List ℕ = be w (length r.addresses) ++ r.addresses in
      room_after (length r.parameters) (then x (then y z))
      (omega (arith, named-full e, length-append a b, counted-size w r.name, counted-size w r.addresses))

  pub wrote-full : {at i j k m : ℕ} {l l₁ l₂ l₃ l₄ : List ℕ} → r.full ≡ true → Wrote at (be 2 r.priority) l i l₁
      → Wrote i (be w (length r.name) ++ r.name) l₁ j l₂ → Wrote j (be w (length r.addresses) ++ r.addresses) l₂ k l₃
      → Wrote k r.parameters l₃ m l₄ → Wrote at (layout c r) l m l₄
  wrote-full e x y z u = rw (named-layout c r named, e, ← is) (then x (then-counted w r.name (put_counted w r.addresses r.parameters) y (then-counted w r.addresses r.parameters z u)))

  pub wrote-name-only : {at i j : ℕ} {l l₁ l₂ : List ℕ} → r.full ≡ false → Wrote at (be 2 r.priority) l i l₁
      → Wrote i (be w (length r.name) ++ r.name) l₁ j l₂ → Wrote at (layout c r) l j l₂
  wrote-name-only e x y = rw (named-layout c r named, e, ← is, append-nil r.name) (then x y)

-- ---- carrier 3

module _ (r : Fields) where
  router-sizes : (b : Bool) → r.full ≡ b → 8 + length r.name ≤ length (layout Router r)
  router-sizes true e = rw (length-layout Router r, e) (omega arith)
  router-sizes false e = rw (length-layout Router r, e) (omega arith)

  pub router-least : 8 + length r.name ≤ length (layout Router r)
  router-least = router-sizes r.full refl

  router-full : r.full ≡ true → length (layout Router r) ≡ 12 + length r.name + length r.addresses + length r.parameters + padding_of r
  router-full e = rw (length-layout Router r, e) (omega arith)

  router-name-only : r.full ≡ false → length (layout Router r) ≡ 8 + length r.name + padding_of r
  router-name-only e = rw (length-layout Router r, e) (omega arith)

  pub router-asks : Fits Router r → r.full ≡ true → (length r.addresses < 65536) × (length r.parameters < 65536)
  router-asks f e = let t = rw e at f.tail in (t.0, t.1)

  unfoldable router_layout : Bool → List ℕ → List ℕ
  router_layout b l = be 2 r.priority ++ (be 4 r.lifetime ++ put_counted 2 r.name (cond b (put_counted 2 r.addresses (put_counted 2 r.parameters l)) l))

  router-laid : (b : Bool) → r.full ≡ b → layout Router r ≡ router_layout b (zeros (padding_of r))
  unfolding layout router_layout
  router-laid b e = rw e

  module _ (g : ℕ) (is : g ≡ padding_of r) {at i j k : ℕ} {l l₁ l₂ l₃ : List ℕ} (x : Wrote at (be 2 r.priority) l i l₁)
      (y : Wrote i (be 4 r.lifetime) l₁ j l₂) (z : Wrote j (be 2 (length r.name) ++ r.name) l₂ k l₃) where
    pub wrote-router-full : {m n o : ℕ} {l₄ l₅ l₆ : List ℕ} → r.full ≡ true → Wrote k (be 2 (length r.addresses) ++ r.addresses) l₃ m l₄
        → Wrote m (be 2 (length r.parameters) ++ r.parameters) l₄ n l₅ → Wrote n (zeros g) l₅ o l₆ → Wrote at (layout Router r) l o l₆
    unfolding router_layout
    wrote-router-full e u v w = rw (router-laid true e ∙ ap (λ (n : ℕ). router_layout true (zeros n)) (sym is)) (then x (then y (then z (then u (then v w)))))

    full_size : r.full ≡ true → length (layout Router r) ≡ 12 + length r.name + length r.addresses + length r.parameters + g
    full_size e = router-full e ∙ rw is

    -- what follows the name has room
    pub addresses-room : r.full ≡ true → at + length (layout Router r) ≤ length l → k + 2 + length r.addresses ≤ length l₃
    addresses-room e h = let s = full_size e in let w = room_after (2 + length r.addresses) (then x (then y z)) (omega arith) in omega arith

    pub parameters-room : {m : ℕ} {l₄ : List ℕ} → r.full ≡ true → Wrote k (be 2 (length r.addresses) ++ r.addresses) l₃ m l₄
        → at + length (layout Router r) ≤ length l → m + 2 + length r.parameters ≤ length l₄
    parameters-room e u h =
        let s = full_size e in
        let rest : List ℕ = be 2 (length r.addresses) ++ r.addresses in
        let w = room_after (2 + length r.parameters) (then x (then y (then z u))) (omega (arith, length-append r.name rest)) in
        omega arith

    pub zeros-room-full : {m n : ℕ} {l₄ l₅ : List ℕ} → r.full ≡ true → Wrote k (be 2 (length r.addresses) ++ r.addresses) l₃ m l₄
        → Wrote m (be 2 (length r.parameters) ++ r.parameters) l₄ n l₅ → at + length (layout Router r) ≤ length l → n + g ≤ length l₅
    zeros-room-full e u v h =
        let last : List ℕ = be 2 (length r.parameters) ++ r.parameters in
        let rest : List ℕ = (be 2 (length r.addresses) ++ r.addresses) ++ last in
        room_after g (then x (then y (then z (then u v)))) (omega (arith, full_size e, length-append r.name rest, length-append r.addresses last))

    pub zeros-room-name-only : r.full ≡ false → at + length (layout Router r) ≤ length l → k + g ≤ length l₃
    zeros-room-name-only e h =
        let size : length (layout Router r) ≡ 8 + length r.name + g = router-name-only e ∙ rw is in
        room_after g (then x (then y z)) (omega arith)

    pub wrote-router-name-only : {m : ℕ} {l₄ : List ℕ} → r.full ≡ false → Wrote k (zeros g) l₃ m l₄ → Wrote at (layout Router r) l m l₄
    unfolding router_layout
    wrote-router-name-only e w = rw (router-laid false e ∙ ap (λ (n : ℕ). router_layout false (zeros n)) (sym is)) (then x (then y (then z w)))

-- ---- carriers 4 and 5

module _ (r : Fields) where
  attribute-layout : (c : Carrier) → as_text c ≡ true → layout c (carried_of c r)
      ≡ be 2 r.priority ++ (be 1 (length r.addresses / address_width c) ++ (be 1 (length r.name - 2) ++ (r.addresses ++ (text_of r.name ++ r.parameters))))
  unfolding layout
  attribute-layout c e = ap (λ (k : Form). layout_by k c (carried_as (text_in k) r)) (text-form (form_of c) e) ∙ rw (text-width c e, text-length)

  pub attribute-length : (c : Carrier) → as_text c ≡ true → length (layout c (carried_of c r)) ≡ 4 + length r.addresses + (length r.name - 2) + length r.parameters
  attribute-length c e =
      body-length c r ∙ ap (λ (k : Form). body_by k c r.full (length r.name) (length r.addresses) (length r.parameters)) (text-form (form_of c) e)

  pub attribute-asks : (c : Carrier) → as_text c ≡ true → Fits c (carried_of c r) → (length r.name - 2 < 256) × (length r.addresses / address_width c < 256)
  attribute-asks c e f =
      let n : length (carried_as true r).name < 256 ^ 1 = rw (e, text-width c e) at f.name in
      let t : FitsBy Text c (carried_as true r) = subst (λ (k : Form). FitsBy k c (carried_as (text_in k) r)) (text-form (form_of c) e) f.tail in
      (omega (arith, text-length r.name), t.2)

  -- with `count` addresses
  module _ (c : Carrier) (count : ℕ) (text : as_text c ≡ true) (is : count ≡ length r.addresses / address_width c) {at i j k m : ℕ}
      {l l₁ l₂ l₃ l₄ : List ℕ} (x : Wrote at (be 2 r.priority) l i l₁) (y : Wrote i (be 1 count) l₁ j l₂)
      (z : Wrote j (be 1 (length r.name - 2)) l₂ k l₃) (u : Wrote k r.addresses l₃ m l₄) where
    -- what follows the addresses has room
    pub text-room : at + length (layout c (carried_of c r)) ≤ length l → m + (length r.name - 2) ≤ length l₄
    text-room h = room_after (length r.name - 2) (then x (then y (then z u))) (omega (arith, attribute-length c text))

    pub after-text-room : {n : ℕ} {l₅ : List ℕ} → Wrote m (text_of r.name) l₄ n l₅ → at + length (layout c (carried_of c r)) ≤ length l
        → n + length r.parameters ≤ length l₅
    after-text-room v h =
        room_after (length r.parameters) (then x (then y (then z (then u v))))
        (omega (arith, attribute-length c text, length-append r.addresses (text_of r.name), text-length r.name))

    pub wrote-attribute : {n o : ℕ} {l₅ l₆ : List ℕ} → Wrote m (text_of r.name) l₄ n l₅ → Wrote n r.parameters l₅ o l₆
        → Wrote at (layout c (carried_of c r)) l o l₆
    wrote-attribute v w = rw (attribute-layout c text, ← is) (then x (then y (then z (then u (then v w)))))

-- ---- the fields as a carrier has them

-- in carriers 1 and 2 they are as they came
pub carried-named : (c : Carrier) (r : Fields) → Named c → carried_of c r ≡ r
carried-named c r k = rw k.1

module _ (c : Carrier) (r : Fields) (e : c ≡ Router) where
  pub router-fits : Fits c (carried_of c r) → Fits Router r
  router-fits f = rw e at f

  pub router-body : layout c (carried_of c r) ≡ layout Router r
  router-body = rw e

-- ---- options and instances

pub wrote-option : (c : Carrier) (r : Fields) (n : ℕ) {at i j : ℕ} {l l₁ l₂ : List ℕ}
    → n ≡ body_octets c r.full (length r.name) (length r.addresses) (length r.parameters)
    → Wrote at (head_of c n) l i l₁ → Wrote i (layout c (carried_of c r)) l₁ j l₂ → Wrote at (own_option c r) l j l₂
wrote-option c r n e x y =
    let b : List ℕ = layout c (carried_of c r) in
    let same : own_option c r ≡ head_of c n ++ b = ap (λ (m : ℕ). head_of c m ++ b) (body-length c r ∙ sym e) in
    rw same (then x y)

pub wrote-instance : (r : Fields) (n : ℕ) {at i j : ℕ} {l l₁ l₂ : List ℕ}
    → n ≡ body_octets Dhcp4 r.full (length r.name) (length r.addresses) (length r.parameters)
    → Wrote at (be 2 n) l i l₁ → Wrote i (layout Dhcp4 (carried_of Dhcp4 r)) l₁ j l₂ → Wrote at (instance_of r) l j l₂
wrote-instance r n e x y =
    let b : List ℕ = layout Dhcp4 r in
    let same : instance_of r ≡ be 2 n ++ b = ap (λ (l : List ℕ). be 2 (length b) ++ l) (append-nil b) ∙ ap (λ (m : ℕ). be 2 m ++ b) (body-length Dhcp4 r ∙ sym e) in
    rw same (then x y)
