-- What is known of a sheet once it is vetted, and what holds while its octets are laid. Assumes nothing: these are definitions.
use Rattle.std.specs.Prelude.{◌≡◌, Bool, cond, List, [], ◌++◌, ℕ, ◌+◌, ◌≤◌, length}
use Rattle.octets.specs.Lists.{All}
use Rattle.octets.specs.Over.{Wrote}
use Rattle.carriers.specs.declared.Carrier.{Carrier}
use Rattle.carriers.specs.Carriers.{is_joined}
use Rattle.blocks.specs.Block.{Fields}
use Rattle.pieces.specs.Pieces.{cut_octets}
use Rattle.taking.specs.Standing.{Standing}
use Rattle.vetting.specs.Vetting.{Vetted, refuse, sheet, vet_of, any_large}
use Rattle.layouts.specs.Layouts.{stream_of}
use Rattle.written.specs.Accepted.{Sound, Accepted}

-- ---- a vetted sheet

abbrev pub records_in : Vetted → List Fields
records_in (refuse k p) = []
records_in (sheet c rs) = rs

-- the records of the sheet s
abbrev pub records_of : List ℕ → List Fields
records_of s = records_in (vet_of s)

-- s is vetted as a sheet of carrier c: whether a record is large, and how many octets the records take one after another
pub record Found (c : Carrier) (s : List ℕ) (big : Bool) (size : ℕ) : Type 0 where
  pub vetted : vet_of s ≡ sheet c (records_of s)
  pub larges : big ≡ any_large c (records_of s)
  pub sizes : size ≡ length (stream_of c (records_of s))

-- s is a sheet of carrier c, and it is accepted
abbrev pub Ready : Carrier → List ℕ → Type 0
Ready c s = Accepted s c (records_of s)

-- ---- its octets

-- of the records rs those before an index of s are laid over `out` from an index on, and there is room for the others
pub record Laying (c : Carrier) (s : List ℕ) (rs : List Fields) (from : ℕ) (out : List ℕ) (at o : ℕ) (out' : List ℕ) : Type 0 where
  pub done : List ℕ
  pub rest : List Fields
  pub are : stream_of c rs ≡ done ++ stream_of c rest
  pub standing : Standing c s at rest
  pub sound : All (Sound c) rest
  pub room : from + length (stream_of c rs) ≤ length out
  pub wrote : Wrote from done out o out'

-- octets of the result, by those of the records one after another: in carrier 1 they are cut into options
abbrev pub total_of : Carrier → ℕ → ℕ
total_of c n = cond (is_joined c) (cut_octets n) n

-- the sheet's records have `size` octets one after another, the result has `total`, and there is room for it
pub record Measured (c : Carrier) (s : List ℕ) (size total room : ℕ) : Type 0 where
  pub sizes : size ≡ length (stream_of c (records_of s))
  pub totals : total ≡ total_of c size
  pub fits : total ≤ room
