-- How many octets a layout has, and which fields fit. Assumes nothing.
use Rattle.std.specs.Prelude.{◌≡◌, refl, Bool, true, false, cond, ℕ, ◌+◌, ◌*◌, ◌/◌, ◌%◌, ◌^◌, ◌≤◌, ◌<◌, length}
use Rattle.std.proofs.Common.{ap, ◌∙◌, true≢false, arith, mul-div_cancel, length-append}
use Rattle.std.proofs.Math.Nat.{mul-mod_left}
use Rattle.std.proofs.lemmas.List.{length-replicate}
use Rattle.octets.specs.NumbersLaws.{length-be}
use Rattle.numbers.specs.Limit as limit
use Rattle.carriers.specs.declared.Carrier.{Carrier}
use Rattle.carriers.specs.declared.Carrier.TheVariants.{Router}
use Rattle.carriers.specs.declared.Form.{Form}
use Rattle.carriers.specs.declared.Form.TheVariants.{Wire, Padded, Text}
use Rattle.carriers.specs.Carriers.{header_of, form_of, length_width, lifetime_in, lifetime_width, address_width, text_in}
use Rattle.carriers.proofs.CarriersLaws.{by-body, address-width, length-room, text-width, padded-router}
use Rattle.blocks.specs.Block.{Fields, gap, option_size, layout_by, layout, size_by, size_of, FitsBy, Fits, PossibleBy, Possible, stated}

size-router : (f : Fields) (b : Bool) → f.full ≡ b → length (layout_by Padded Router f) ≡ size_of Router f
size-router f true e = simp (e, length-append, length-replicate) (omega arith)
size-router f false e = simp (e, length-append, length-replicate) (omega arith)

size-at : (k : Form) (c : Carrier) (f : Fields) (b : Bool) → form_of c ≡ k → f.full ≡ b
    → length (layout_by k c f) ≡ size_by k c f.full (length f.name) (length f.addresses) (length f.parameters)
size-at Wire c f true q e = let t = ap lifetime_in q in simp (e, length-append, length-be) (omega arith)
size-at Wire c f false q e = let t = ap lifetime_in q in simp (e, length-append, length-be) (omega arith)
size-at Padded c f b q e = rw (padded-router c q) (size-router f b e)
size-at Text c f b q e = let w = text-width c (ap text_in q) in simp (length-append, length-be) (omega arith)

pub length-layout : (c : Carrier) (f : Fields) → length (layout c f) ≡ size_of c f
unfolding layout
length-layout c f = size-at (form_of c) c f f.full refl refl

-- ---- carrier 3: 10 + name octets, or 14 + name + addresses + parameters, rounded up to 8 (RULES B8)

-- the option is the least multiple of 8 that is so many octets or more
pub option-rounded : (f : Fields) → option_size f ≡ stated f + gap (stated f)
option-rounded f = go f.full
  where
    go : (full : Bool) → let n : ℕ = length f.name in let a : ℕ = length f.addresses in let p : ℕ = length f.parameters in
        let m : ℕ = cond full (14 + n + a + p) (10 + n) in
        header_of Router + size_by Padded Router full n a p ≡ m + gap m
    go true = omega arith
    go false = omega arith

pub option-multiple : (f : Fields) → option_size f % 8 ≡ 0
option-multiple f = rw (option-rounded f) (omega arith)

pub option-enough : (f : Fields) → stated f ≤ option_size f
option-enough f = rw (option-rounded f) (omega arith)

pub option-least : (f : Fields) (m : ℕ) → m % 8 ≡ 0 → stated f ≤ m → option_size f ≤ m
option-least f m e h = rw (option-rounded f) (omega arith)

-- what is laid out is a body that its carrier can bring
pub layout-possible : (c : Carrier) (f : Fields) → Possible c (layout c f)
layout-possible c f = go (form_of c) refl
  where
    go : (k : Form) → form_of c ≡ k → PossibleBy k (layout c f)
    go Wire e = tt
    go Padded e = rw (padded-router c e, length-layout Router f) (omega (arith, option-multiple f))
    go Text e = tt

-- ---- records within the limits (RULES L3, L4) fit their carrier

-- in carriers 1 and 2 the address length has room for the addresses that a record may have
address_room : (k n : ℕ) → k ≤ limit.addresses → (c : Carrier) → form_of c ≡ Wire → n ≡ k * address_width c → n < 256 ^ length_width c
address_room k n h =
    by-body (λ w v form. form ≡ Wire → n ≡ k * w → n < 256 ^ v)
    (λ e z. omega arith)
    (λ e z. omega arith)
    (λ e z. omega arith)
    (λ e z. absurd (true≢false (ap text_in e)))
    (λ e z. absurd (true≢false (ap text_in e)))

-- with k addresses
module _ (f : Fields) (k : ℕ) (e : f.full ≡ true) (hp : f.priority < 65536) (hn : length f.name < 256) (some : 0 < k) (few : k ≤ limit.addresses)
    (hq : length f.parameters ≤ limit.parameters) where
  pub fits-full : (c : Carrier) → f.lifetime < 256 ^ lifetime_width c → length f.addresses ≡ k * address_width c → Fits c f
  fits-full c ht ha = record { priority = hp; lifetime = ht; name = length-room (length f.name) hn c; tail = go (form_of c) refl }
    where
      go : (form : Form) → form_of c ≡ form → FitsBy form c f
      go Wire q = rw e (address_room k (length f.addresses) few c q ha)
      go Padded q = let n : length f.addresses ≡ k * 16 = rw (padded-router c q) at ha in rw e (omega arith, omega arith, omega arith)
      go Text q =
          let w : ℕ = address_width c in
          let count : length f.addresses / w ≡ k = ap (λ (n : ℕ). n / w) ha ∙ mul-div_cancel k (address-width c).0 in
          (e, ap (λ (n : ℕ). n % w) ha ∙ mul-mod_left k w, omega arith)
