-- The one set of octets defined for records (RULES E1 to E3). Assumes nothing: these are definitions.
use Rattle.std.specs.Prelude.{cond, List, ℕ}
use Rattle.carriers.specs.declared.Carrier.{Carrier}
use Rattle.carriers.specs.Carriers.{is_joined}
use Rattle.blocks.specs.Block.{Fields}
use Rattle.pieces.specs.Pieces.{cut_of}
use Rattle.layouts.specs.Layouts.{stream_of}

-- the one set of octets defined: the records one after another, in carrier 1 cut into options (RULES E1 to E3)
unfoldable pub octets_of : Carrier → List Fields → List ℕ
octets_of c rs = cond (is_joined c) (cut_of (stream_of c rs)) (stream_of c rs)
