-- What is said of foreign options that are passed over. Assumes nothing: these are definitions.
use Rattle.std.specs.Prelude.{◌≡◌, Bool, false, List, ℕ, ◌≤◌, length, Ok}
use Rattle.carriers.specs.declared.Carrier.{Carrier}
use Rattle.carriers.specs.Carriers.{code_of, head_width, has_reserved, in_eights, is_joined}
use Rattle.frames.specs.declared.Step.TheVariants.{Skipped}
use Rattle.frames.specs.Step.{step_at}

-- from one index up to another stand only whole foreign options
pub data Skips (c : Carrier) (area : List ℕ) (from : ℕ) : ℕ → Type 0 where
  none : from ≤ length area → Skips c area from from
  more : {at to : ℕ} → Skips c area from at → step_at c area at ≡ Ok (Skipped to) → Skips c area from to

-- a carrier of this code, whose headers are a 16-bit code and a 16-bit length in octets
pub record Wide (code : ℕ) (reserved : Bool) (c : Carrier) : Type 0 where
  pub code_is : code_of c ≡ code
  pub reserved_is : has_reserved c ≡ reserved
  pub width : head_width c ≡ 2
  pub octets : in_eights c ≡ false
  pub apart : is_joined c ≡ false

-- so it is in every such carrier
pub record Passes (code : ℕ) (reserved : Bool) (area : List ℕ) (from at : ℕ) : Type 0 where
  pub within : at ≤ length area
  pub skips : {c : Carrier} → Wide code reserved c → Skips c area from at
