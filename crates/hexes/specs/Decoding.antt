-- What `decode` answers and leaves in the buffer. Assumes nothing: these are definitions.
use Rattle.std.specs.Prelude.{◌≡◌, cond, List, [], ℕ, ltb, length, Option, Some, None, Result, Ok, Err}
use Rattle.octets.specs.Over.{over}
use Rattle.hexes.specs.declared.Undecoded.{Undecoded}
use Rattle.hexes.specs.declared.Undecoded.TheVariants.{NoRoom, Other}
use Rattle.hexes.specs.Hexes.{Read, read_hex}
use Rattle.hexes.specs.Hexes as hexes

-- ---- the answer

pub data Answer : Type 0 where
  written : List ℕ → Answer
  no_room : Answer
  other : Answer

-- what was read, to a buffer of `room` octets
abbrev pub fit : Read → ℕ → Answer
fit (hexes.octets bs) room = cond (ltb room (length bs)) no_room (written bs)
fit hexes.other room = other

-- decoding a text to a buffer of `room` octets: whether it is hexadecimal text is told before whether its octets have room
abbrev pub decode_of : List ℕ → ℕ → Answer
decode_of t room = fit (read_hex t) room

-- ---- what the call gives back, by the answer

abbrev pub told : Answer → Result ℕ Undecoded
told (written bs) = Ok (length bs)
told no_room = Err NoRoom
told other = Err Other

-- the whole buffer after it
abbrev pub left : Answer → List ℕ → List ℕ
left (written bs) out = over 0 bs out
left no_room out = out
left other out = out

pub record Decoded (t out : List ℕ) (r : Result ℕ Undecoded) (out' : List ℕ) : Type 0 where
  pub answered : r ≡ told (decode_of t (length out))
  pub leaves : out' ≡ left (decode_of t (length out)) out

-- ---- the two passes

-- the octets that were read, and how many they are
abbrev pub octets_in : Read → List ℕ
octets_in (hexes.octets bs) = bs
octets_in hexes.other = []

abbrev pub size_in : Read → ℕ
size_in r = length (octets_in r)

abbrev pub counted : Read → Option ℕ
counted (hexes.octets bs) = Some (length bs)
counted hexes.other = None
