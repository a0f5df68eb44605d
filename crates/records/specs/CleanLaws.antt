-- Address lists of which nothing is dropped. Assumes nothing.
use Rattle.std.specs.Prelude.{◌≡◌, refl, Bool, true, false, cond, ℕ, suc, ◌*◌, ◌/◌, ◌%◌, ◌<◌, length}
use Rattle.std.proofs.Common.{sym, ◌∙◌, arith, mul-div_cancel}
use Rattle.std.proofs.Math.Path.{ap, subst⁻¹}
use mathlib.Core.List.{List, [], ◌∷◌}
use Rattle.std.proofs.Math.Nat.{mul-mod_left}
use Rattle.octets.specs.Lists.{flat}
use Rattle.octets.specs.Over.{Wrote}
use Rattle.carriers.specs.declared.Carrier.{Carrier}
use Rattle.carriers.specs.Carriers.{address_width}
use Rattle.addresses.specs.Addresses.{unusable, list_of, kept_of}
use Rattle.addresses.specs.AddressesLaws.{list-nil, list_length, flat-list, kept-few}
use Rattle.blocks.specs.Block.{Fields}
use Rattle.blocks.specs.Parse.{fields, parse}
use Rattle.records.specs.Records.{staying}
use Rattle.records.specs.Examined.{Clean}

-- where as many addresses are kept as there are, none was dropped
kept_whole : (w : ℕ) (ls : List (List ℕ)) → length (kept_of w ls) ≡ length ls → kept_of w ls ≡ ls
unfolding kept_of
kept_whole w [] e = refl
kept_whole w (a ∷ more) e = go (unusable w a) e (kept_whole w more)
  where
    go : (b : Bool) → length (cond b (kept_of w more) (a ∷ kept_of w more)) ≡ suc (length more) → (length (kept_of w more) ≡ length more → kept_of w more ≡ more)
        → cond b (kept_of w more) (a ∷ kept_of w more) ≡ a ∷ more
    go true e ih = absurd (omega (arith, kept-few w more))
    go false e ih = ap (λ (l : List (List ℕ)). a ∷ l) (ih (omega arith))

module _ (w : ℕ) (some : 0 < w) where
  -- a list of which as many octets stay as there are is the list that stays
  pub staying-whole : (a : List ℕ) → length (kept_of w (list_of w a)) * w ≡ length a → staying w a ≡ a
  staying-whole a e =
      let n : ℕ = length (kept_of w (list_of w a)) in
      let count : length a / w ≡ n = ap (λ (m : ℕ). m / w) (sym e) ∙ mul-div_cancel n some in
      let even : length a % w ≡ 0 = ap (λ (m : ℕ). m % w) (sym e) ∙ mul-mod_left n w in
      ap flat (kept_whole w (list_of w a) (sym count ∙ sym (list_length w a))) ∙ flat-list w a even

  -- of no addresses none is dropped
  pub staying-none : staying w [] ≡ []
  unfolding kept_of
  staying-none = ap (λ (ls : List (List ℕ)). flat (kept_of w ls)) (list-nil w [] some)

-- such a list is written as it stands
pub wrote-clean : (w : ℕ) {a : List ℕ} {at r : ℕ} {l l' : List ℕ} → staying w a ≡ a → Wrote at a l r l' → Wrote at (staying w a) l r l'
wrote-clean w {a} {at} {r} {l} {l'} e v = subst⁻¹ (λ (b : List ℕ). Wrote at b l r l') e v

-- a body is clean by the fields that it splits into
pub clean-fields : (c : Carrier) (b : List ℕ) (f : Fields) → fields f ≡ parse c b → staying (address_width c) f.addresses ≡ f.addresses → Clean c b
clean-fields c b f e s g p =
    let q : f ≡ g = cc in
    ap (λ (x : Fields). staying (address_width c) x.addresses) (sym q) ∙ s ∙ ap (λ (x : Fields). x.addresses) q
