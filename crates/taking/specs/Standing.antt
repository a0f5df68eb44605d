-- Which records stand in a sheet from an index on, one after another to its end. Assumes nothing: these are definitions.
use Rattle.std.specs.Prelude.{◌≡◌, true, List, [], ◌∷◌, ℕ, length, take, drop}
use Rattle.carriers.specs.declared.Carrier.{Carrier}
use Rattle.blocks.specs.Block.{Fields}
use Rattle.taking.specs.Spot.{Spot, spot_of, fields_at, Inside}

-- from index `at` on stand exactly the records rs, to the end of s
pub data Standing (c : Carrier) (s : List ℕ) : ℕ → List Fields → Type 0 where
  none : {at : ℕ} → at ≡ length s → Standing c s at []
  one : {at : ℕ} {r : Fields} {rs : List Fields} → (spot_of c s at).good ≡ true → fields_at s (spot_of c s at) ≡ r → Standing c s (spot_of c s at).next rs
      → Standing c s at (r ∷ rs)

-- p is where the fields of the record r stand, from `at` on
pub record Stands (s : List ℕ) (at : ℕ) (r : Fields) (p : Spot) : Type 0 where
  pub good : p.good ≡ true
  pub priority : p.priority ≡ r.priority
  pub lifetime : p.lifetime ≡ r.lifetime
  pub full : p.full ≡ r.full
  pub name : take p.nlen (drop p.name s) ≡ r.name
  pub addresses : take p.alen (drop p.addresses s) ≡ r.addresses
  pub parameters : take p.plen (drop p.parameters s) ≡ r.parameters
  pub inside : Inside (length s) at p

-- of the records rs from `at` on, p is where the first stands, and the others stand after it
pub record Step (c : Carrier) (s : List ℕ) (at : ℕ) (rs : List Fields) (p : Spot) : Type 0 where
  pub first : Fields
  pub rest : List Fields
  pub are : rs ≡ first ∷ rest
  pub stands : Stands s at first p
  pub standing : Standing c s p.next rest
