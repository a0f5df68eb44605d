-- RULES D3, its first half, of the octets that are written: in carriers 2 to 5 they are the stream of which `PrefixLaws` speaks. Assumes nothing.
use Rattle.std.specs.Prelude.{◌≡◌, ◌↔◌, List, ℕ}
use Rattle.carriers.specs.declared.Carrier.{Carrier}
use Rattle.carriers.specs.Carriers.{is_joined, Plain}
use Rattle.blocks.specs.Block.{Fields}
use Rattle.frames.specs.WalkLaws.{apart-false}
use Rattle.layouts.specs.Layouts.{stream_of}
use Rattle.written.specs.Octets.{octets_of}
use Rattle.written.specs.Accepted.{Accepted}
use Rattle.prefixes.specs.Prefix.{Leading}
use Rattle.prefixes.proofs.PrefixLaws.{prefix-exactly}

-- in carriers 2 to 5 these are the octets that are written
stream-octets : (c : Carrier) → Plain c → (rs : List Fields) → stream_of c rs ≡ octets_of c rs
unfolding octets_of
stream-octets c p rs = rw (apart-false (is_joined c) p)

pub octets-exactly : (c : Carrier) → Plain c → (s t : List ℕ) (rs qs : List Fields) → Accepted s c rs → Accepted t c qs
    → Leading (octets_of c rs) (octets_of c qs) ↔ Leading rs qs
octets-exactly c p s t rs qs a b = rw (← (stream-octets c p rs), ← (stream-octets c p qs)) (prefix-exactly c s t rs qs a b)
