-- The octets defined for accepted records: how many they are at most, and what they are framed to in carriers 2 to 5. Assumes nothing.
use Rattle.std.specs.Prelude.{◌≡◌, List, [], ◌∷◌, map, ◌+◌, ◌*◌, ◌≤◌, length}
use Rattle.std.proofs.Common.{sym, ap, ◌∙◌, arith, length-append}
use Rattle.std.proofs.lemmas.Simd.{map-map}
use Rattle.octets.specs.Lists.{All, flat}
use Rattle.octets.specs.ListsLaws.{flat-few}
use Rattle.numbers.specs.Limit as limit
use Rattle.carriers.specs.declared.Carrier.{Carrier}
use Rattle.carriers.specs.declared.Carrier.TheVariants.{Dhcp4}
use Rattle.carriers.specs.Carriers.{is_joined, Plain}
use Rattle.carriers.proofs.CarriersLaws.{by-joined}
use Rattle.frames.specs.Frame.{frame, framed}
use Rattle.frames.specs.Emit as emit
use Rattle.frames.proofs.EmitLaws.{option-length, frame-options}
use Rattle.frames.specs.WalkLaws.{apart-false}
use Rattle.blocks.specs.Block.{Fields}
use Rattle.pieces.specs.PiecesLaws.{cut-length}
use Rattle.layouts.specs.Layouts.{own_option, instance_of, joined_of}
use Rattle.layouts.specs.Writable.{most_body}
use Rattle.layouts.specs.LayoutsLaws.{header-small, writable-body, writable-emits}
use Rattle.written.specs.Octets.{octets_of}
use Rattle.written.specs.Accepted.{Sound}
use Rattle.written.proofs.AcceptedLaws.{writable}
use Rattle.roundtrip.specs.Returns.{body_of, bodies_of}

-- ---- so many octets a record at most

option-few : (c : Carrier) (r : Fields) → Sound c r → length (own_option c r) ≤ 4 + most_body
option-few c r s = omega (arith, option-length c (body_of c r), header-small c, writable-body c r (writable c r s))

instance-few : (r : Fields) → Sound Dhcp4 r → length (instance_of r) ≤ 2 + most_body
instance-few r s = omega (arith, length-append (body_of Dhcp4 r) [], writable-body Dhcp4 r (writable Dhcp4 r s))

options-few : (c : Carrier) (rs : List Fields) → All (Sound c) rs → length rs ≤ limit.records → length (flat (map (own_option c) rs)) ≤ limit.input
options-few c rs s few = omega (arith, flat-few (own_option c) (Sound c) (4 + most_body) rs (option-few c) s)

joined-few : (rs : List Fields) → All (Sound Dhcp4) rs → length rs ≤ limit.records → length (joined_of rs) ≤ limit.records * (2 + most_body)
joined-few rs s few = omega (arith, flat-few instance_of (Sound Dhcp4) (2 + most_body) rs instance-few s)

-- the octets of 16 accepted records are within the limit of input
pub octets-few : (c : Carrier) (rs : List Fields) → All (Sound c) rs → length rs ≤ limit.records → length (octets_of c rs) ≤ limit.input
unfolding octets_of
octets-few =
    by-joined (λ c. (rs : List Fields) → All (Sound c) rs → length rs ≤ limit.records → length (octets_of c rs) ≤ limit.input)
    (λ rs s few. omega (arith, cut-length (joined_of rs), joined-few rs s few))
    (λ c e rs s few. rw e (options-few c rs s few))

-- ---- carriers 2 to 5: an option for each body

pub plain-octets : (c : Carrier) → Plain c → (rs : List Fields) → octets_of c rs ≡ emit.options_of c (bodies_of c rs)
unfolding octets_of
plain-octets c p rs = rw (apart-false (is_joined c) p) (ap flat (sym (map-map (emit.option_of c) (body_of c) rs)))

-- each body's length can be said in its header
pub bodies-emit : (c : Carrier) → Plain c → (rs : List Fields) → All (Sound c) rs → All (emit.Fits c) (bodies_of c rs)
bodies-emit c p [] s = tt
bodies-emit c p (r ∷ rs) s = (writable-emits c r p (writable c r s.0), bodies-emit c p rs s.1)

-- so the octets are framed to the bodies
pub plain-framed : (c : Carrier) → Plain c → (rs : List Fields) → All (Sound c) rs → frame c (octets_of c rs) ≡ framed (bodies_of c rs)
plain-framed c p rs s = ap (frame c) (plain-octets c p rs) ∙ frame-options c (bodies_of c rs) (bodies-emit c p rs s)
