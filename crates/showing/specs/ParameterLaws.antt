-- What is shown of a parameter by cases. Assumes nothing.
use Rattle.std.specs.Prelude.{◌≡◌, refl, Bool, true, false, ◌&&◌, List, ℕ, eqb, length}
use Rattle.std.proofs.Math.Path.{ap}
use Rattle.std.proofs.Common.{◌∙◌}
use borrow.Author.Tests.{eqb-true, ne_eqb}
use Rattle.octets.specs.Numbers.{at16}
use Rattle.chars.specs.Ascii.{decimal_of}
use Rattle.values.specs.Values.{quoted, value_of}
use Rattle.showing.specs.Showing.{value_by}

-- of two tests the second fails where the first does not
not-both : (n m : ℕ) {b : Bool} → (n ≡ m → b ≡ false) → (eqb n m && b) ≡ false
not-both n m {b} f = go (eqb n m) refl
  where
    go : (t : Bool) → eqb n m ≡ t → (t && b) ≡ false
    go true e = f (eqb-true n m e)
    go false e = refl

module _ (json : Bool) {k : ℕ} (v : List ℕ) where
  pub value-port : {n : ℕ} → k ≡ 3 → length v ≡ 2 → n ≡ at16 v 0 → decimal_of n ≡ value_by json k v
  unfolding value_by
  value-port e h q = ap decimal_of q ∙ simp (e, h)

  pub value-string : (k ≡ 0 → ⊥) → (k ≡ 1 → ⊥) → (k ≡ 2 → json ≡ false) → (k ≡ 3 → eqb (length v) 2 ≡ false) → quoted json (value_of json v) ≡ value_by json k v
  unfolding value_by
  value-string a b n m = simp (ne_eqb k 0 a, ne_eqb k 1 b, not-both k 2 n, not-both k 3 m)
