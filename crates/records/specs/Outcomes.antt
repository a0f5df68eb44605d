-- What the definitions say on each way through the functions over the parts of a body. Assumes nothing.
use Rattle.std.specs.Prelude.{◌≡◌, Bool, true, false, List, ◌++◌, ℕ, ◌+◌, ◌*◌, ◌≤◌, ◌<◌, length}
use Rattle.std.proofs.Common.{sym, ap, ◌∙◌, arith}
use Rattle.octets.specs.Numbers.{be}
use Rattle.octets.specs.Over.{Wrote}
use Rattle.numbers.specs.Limit as limit
use Rattle.carriers.specs.declared.Carrier.{Carrier}
use Rattle.carriers.specs.Carriers.{address_width}
use Rattle.carriers.proofs.CarriersLaws.{few-addresses}
use Rattle.texts.specs.Texts.{wire_of}
use Rattle.texts.specs.Convert.{wire-length}
use Rattle.addresses.specs.Addresses.{list_of, kept_of}
use Rattle.addresses.specs.AddressesLaws.{wide-some}
use Rattle.blocks.specs.Block.{Fields}
use Rattle.judge.specs.declared.Side.TheVariants.{Reading}
use Rattle.judge.specs.declared.Flaw.{Flaw}
use Rattle.judge.specs.Place.{Judged, judged, from, flawed}
use Rattle.judge.specs.Judge.{judged_by, fault_of}
use Rattle.judge.specs.Passed.{Passed}
use Rattle.judge.specs.JudgeLaws.{carrier-width, fault-passed}
use Rattle.judge.proofs.PlaceLaws.{place-within}
use Rattle.judge.specs.Numbered.{number-some}
use Rattle.records.specs.Records.{staying, name_as, keep_of, head_size, tail_size, record_of}
use Rattle.records.specs.Yielded.{yield_of}
use Rattle.records.specs.Examined.{examined_of, discarded}
use Rattle.records.specs.Parts.{name_in, name_part}
use Rattle.records.specs.RecordsLaws.{yield-kept, yield-faulty, length-record, staying-length, name-small, kept_small}
use Rattle.records.specs.CleanLaws.{staying-whole}

-- ---- a name

module _ (text : Bool) (name : List ℕ) where
  pub size-text : text ≡ true → length name + 2 ≡ length (name_as text name)
  size-text t = rw t (sym (wire-length name))

  pub size-wire : text ≡ false → length name ≡ length (name_as text name)
  size-wire t = rw t

  module _ {n at r : ℕ} {l l' : List ℕ} (e : n ≡ length (name_as text name)) where
    pub wrote-text : text ≡ true → Wrote at (be 1 n ++ wire_of name) l r l' → Wrote at (name_part (name_as text name)) l r l'
    wrote-text t w = rw t (rw (rw t at e) at w)

    pub wrote-wire : text ≡ false → Wrote at (be 1 n ++ name) l r l' → Wrote at (name_part (name_as text name)) l r l'
    wrote-wire t w = rw t (rw (rw t at e) at w)

-- ---- what is answered of fields

-- of fields whose name stands at an offset: with a flaw
module _ (c : Carrier) (at : ℕ) (f : Fields) (w : Flaw) (e : flawed w ≡ judged_by Reading c f) where
  -- the place is in the name
  pub place_inside : w.place ≤ length f.name
  place_inside = omega (arith, place-within Reading c f, ap (λ (j : Judged). j.place) e)

  pub examined-faulty : (v : Flaw) → flawed v ≡ from at (flawed w) → discarded (flawed v) ≡ examined_of c (yield_of c at f) false
  examined-faulty v q =
      let some : fault_of Reading c f ≡ 0 → ⊥ = λ z. number-some w.fault (ap (λ (j : Judged). j.fault) e ∙ z) in
      rw (yield-faulty c at f some) (ap discarded (q ∙ ap (from at) e))

-- and without one, of a name of n octets in wire form
module _ (c : Carrier) (f : Fields) (e : judged 0 0 ≡ judged_by Reading c f) {n : ℕ} (en : n ≡ length (name_in c f.name)) where
  passed : Passed Reading c f
  passed = fault-passed Reading c f (sym (ap (λ (j : Judged). j.fault) e))

  pub name-few : n ≤ 255
  name-few = rw en (name-small c f.name passed.named)

  examined-kept : (at : ℕ) {size : ℕ} (clean : Bool) → size ≡ length (record_of c (keep_of c f))
      → record { fault = 0; place = 0; priority = f.priority; size = size; clean = clean } ≡ examined_of c (yield_of c at f) clean
  examined-kept at clean s = rw (yield-kept c at f (sym (ap (λ (j : Judged). j.fault) e)), s)

  pub bare-kept : (at : ℕ) (clean : Bool) → f.full ≡ false
      → record { fault = 0; place = 0; priority = f.priority; size = head_size + n; clean = clean } ≡ examined_of c (yield_of c at f) clean
  bare-kept at clean u = examined-kept at clean (rw (length-record, u, en) (omega arith))

  -- in the full form, of addresses of w octets, m of which stay
  module _ (u : f.full ≡ true) {w : ℕ} (ew : w ≡ address_width c) where
    pub full-few : length f.addresses < 65536
    full-few = let tail = passed.tail u in omega (arith, few-addresses c limit.addresses (length f.addresses) tail.whole tail.few)

    module _ {m : ℕ} (em : m ≡ length (kept_of w (list_of w f.addresses))) where
      full_size : head_size + n + tail_size + m * w + length f.parameters ≡ length (record_of c (keep_of c f))
      full_size =
          let s : length (staying (address_width c) f.addresses) ≡ m * w = rw (← ew) (staying-length w f.addresses ∙ rw em) in
          rw (length-record, u) (omega (arith, en, s))

      pub full-small : head_size + n + tail_size + m * w + length f.parameters ≤ limit.record_size
      full-small = rw full_size (kept_small c f passed)

      pub full-kept : (at : ℕ) (clean : Bool)
          → record { fault = 0; place = 0; priority = f.priority; size = head_size + n + tail_size + m * w + length f.parameters; clean = clean }
          ≡ examined_of c (yield_of c at f) clean
      full-kept at clean = examined-kept at clean full_size

      -- as many octets stay as there are
      pub full-clean : m * w ≡ length f.addresses → staying (address_width c) f.addresses ≡ f.addresses
      full-clean h =
          let wide : 0 < address_width c = wide-some (carrier-width c) in
          staying-whole (address_width c) wide f.addresses (rw (← ew, ← em) h)
