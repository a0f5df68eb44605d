-- The laws of what is shown by cases: lifetimes, records and the head of a sheet; and addresses as a loop meets them. Assumes nothing.
use Rattle.std.specs.Prelude.{◌≡◌, Bool, true, false, cond, List, [], ◌∷◌, ◌++◌, ℕ, ◌≤◌, ◌<◌, length}
use Rattle.std.proofs.Math.Path.{refl}
use Rattle.std.proofs.Common.{sym, ◌∙◌, arith, length-append, take_at, drop_at, eq-eqb, ne_eqb}
use Rattle.carriers.specs.declared.Carrier.{Carrier}
use Rattle.carriers.specs.Carriers.{number_of, address_width, lifetime_width}
use Rattle.addresses.specs.Addresses.{list_of}
use Rattle.addresses.specs.AddressesLaws.{wide-some, list-cons, list-nil}
use Rattle.judge.specs.JudgeLaws.{carrier-width}
use Rattle.blocks.specs.Block.{Fields}
use Rattle.chars.specs.Ascii.{ascii, decimal_of}
use Rattle.values.specs.Values.{carrier_of, span_of}
use Rattle.showing.specs.Showing.{line_of, object_of, lifetime_of, common_of, lists_of, rest_of, record_of, count_of}

-- ---- the head of a sheet

module _ (c : Carrier) {n : ℕ} (e : n ≡ number_of c) where
  pub object-is : ascii "{\"carrier\":" ++ (decimal_of n ++ (ascii ",\"carrierName\":\"" ++ (carrier_of c ++ ascii "\",\"records\":["))) ≡ object_of c
  unfolding object_of
  object-is = simp e

  pub line-is : (count : ℕ)
      → carrier_of c ++ (ascii " (carrier " ++ (decimal_of n ++ count_of count)) ≡ line_of c count
  unfolding line_of
  line-is count = simp e

-- ---- lifetimes

module _ (json : Bool) (c : Carrier) (n : ℕ) {w : ℕ} (e : w ≡ lifetime_width c) where
  pub lifetime-none : w ≡ 0 → [] ≡ lifetime_of json c n
  unfolding lifetime_of
  lifetime-none z = simp (eq-eqb (lifetime_width c) 0 (sym e ∙ z))

  pub lifetime-some : (w ≡ 0 → ⊥)
      → cond json (ascii ",\"lifetime\":") (ascii "\n    lifetime        ") ++ span_of json n ≡ lifetime_of json c n
  unfolding lifetime_of
  lifetime-some z = simp (ne_eqb (lifetime_width c) 0 (λ q. z (e ∙ q)))

-- ---- addresses

pub width_some : (c : Carrier) {w : ℕ} → w ≡ address_width c → 0 < w
width_some c e = rw e (wide-some (carrier-width c))

module _ {w : ℕ} (some : 0 < w) where
  pub address-next : (s a rest : List ℕ) → s ≡ a ++ rest → length a ≡ w → list_of w s ≡ a ∷ list_of w rest
  address-next s a rest e h =
      let k : w ≤ length (a ++ rest) = omega (arith, length-append a rest) in
      rw e (list-cons w (a ++ rest) some k ∙ rw (take_at a rest w h, drop_at a rest w h) refl)

pub address-end : {w : ℕ} (s : List ℕ) → length s < w → list_of w s ≡ []
address-end {w} s h = list-nil w s h

-- ---- a record

module _ (json : Bool) (c : Carrier) (r : Fields) where
  pub rest-full : r.full ≡ true → lists_of json c r.addresses r.parameters ≡ rest_of json c r
  unfolding rest_of
  rest-full e = rw e refl

  pub rest-short : r.full ≡ false → cond json (ascii ",\"nameOnly\":true}") (ascii "\n    name only") ≡ rest_of json c r
  unfolding rest_of
  rest-short e = rw e refl

  pub record_is : common_of json c r.priority r.lifetime r.name ++ rest_of json c r ≡ record_of json c r
  unfolding record_of
  record_is = refl
