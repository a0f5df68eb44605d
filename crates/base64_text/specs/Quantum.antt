-- The state of a quantum. Assumes nothing: these are definitions.
use Rattle.std.specs.Prelude.{Bool, ℕ}

pub record Quantum : Type 0 where
  -- how many of its characters stand, 0 to 3; or a place from 4 on (`quantum`)
  pub place : ℕ
  -- the value of the last character
  pub last : ℕ
  -- the last octet, and whether the last character completed it
  pub octet : ℕ
  pub complete : Bool
