-- The options that hold a value, the octets of an option after its header (docs/COMMAND.md, "Input"; RULES E2, E3, W6).
-- Assumes nothing: these are definitions.
use Rattle.std.specs.Prelude.{◌≡◌, cond, List, [], ◌++◌, map, ℕ, ◌+◌, ◌-◌, ◌%◌, ◌≤◌, ◌<◌, ltb, eqb, length, take, drop, Result, Ok, Err}
use Rattle.octets.specs.Lists.{flat}
use Rattle.octets.specs.Numbers.{zeros}
use Rattle.octets.specs.Over.{over}
use Rattle.numbers.specs.Limit as limit
use Rattle.carriers.specs.declared.Carrier.{Carrier}
use Rattle.carriers.specs.Carriers.{header_of, in_eights, is_joined}
use Rattle.frames.specs.Frame.{frame, framed}
use Rattle.frames.specs.Area.{joined, blocks_of}
use Rattle.frames.specs.Emit.{option_of}
use Rattle.pieces.specs.Pieces.{cut_of, cut_octets}
use Rattle.inputs.specs.Why as why
use Rattle.inputs.specs.declared.Why.TheVariants as whys
use Rattle.inputs.specs.declared.Unread.{Unread}
use Rattle.inputs.specs.declared.Unread.TheVariants as unread
use Rattle.inputs.specs.Read.{Read, Octets, Bad, Long}
use Rattle.headers.specs.declared.Misfit.{Misfit}
use Rattle.headers.specs.declared.Misfit.TheVariants.{NoRoom, Large}

-- ---- the options of a value

-- the zeros after a value of n octets: where lengths are in units of eight, the fewest that bring the option to whole units (RULES E3, W6)
abbrev pub gap_of : Carrier → ℕ → ℕ
gap_of c n = cond (in_eights c) ((8 - (header_of c + n) % 8) % 8) 0

abbrev pub padded_of : Carrier → List ℕ → List ℕ
padded_of c v = v ++ zeros (gap_of c (length v))

-- in carrier 1 options with 255 octets each and a last one with the rest (RULES E2), else one option (RULES E3)
abbrev pub headed_of : Carrier → List ℕ → List ℕ
headed_of c v = cond (is_joined c) (cut_of v) (option_of c (padded_of c v))

-- a value of no octets has no options
abbrev pub options_in : Carrier → List ℕ → List ℕ
options_in c v = cond (eqb (length v) 0) [] (headed_of c v)

-- octets of the options of a value of n octets
abbrev pub size_of : Carrier → ℕ → ℕ
size_of c n = cond (is_joined c) (cut_octets n) (header_of c + (n + gap_of c n))

-- the most octets of a value: where lengths are in units of eight, what 255 of them leave beside the header (RULES L6); else what a length of two
-- octets says, also in carrier 1, where a value is cut
abbrev pub most_of : Carrier → ℕ
most_of c = cond (in_eights c) (limit.option - header_of c) 65535

-- ---- an area of values

-- a value that options of the carrier hold
abbrev pub Held : Carrier → List ℕ → Type 0
Held c v = (0 < length v) × (length v ≤ most_of c)

-- the options of values, one value after another
abbrev pub area_of : Carrier → List (List ℕ) → List ℕ
area_of c vs = flat (map (headed_of c) vs)

-- the blocks that they make: in carrier 1 the values one after another, joined (RULES W4; RFC 3396), else each value, in carrier 3 with its zeros
abbrev pub blocks_in : Carrier → List (List ℕ) → List (List ℕ)
blocks_in c vs = cond (is_joined c) (joined vs) (map (padded_of c) vs)

-- the area can be framed, and its blocks are those of the values
pub record Framed (c : Carrier) (vs : List (List ℕ)) : Type 0 where
  pub bodies : List (List ℕ)
  pub frames : frame c (area_of c vs) ≡ framed bodies
  pub blocks : blocks_of c bodies ≡ blocks_in c vs

-- ---- a value put to the front of a buffer

-- so many octets of options; or that there is no room for them; or that no option of the carrier holds the value
abbrev pub Placed : Type 0
Placed = Result ℕ Misfit

-- what is answered, and the buffer then
pub record Put : Type 0 where
  pub placed : Placed
  pub out : List ℕ

abbrev pub put : Placed → List ℕ → Put
put p out = record { placed = p; out = out }

-- a value of no octets has no options, and no room is wanted for it
unfoldable pub put_of : List ℕ → Carrier → List ℕ → Put
put_of out c v =
    cond (eqb (length v) 0) (put (Ok 0) out)
    (cond (ltb (most_of c) (length v)) (put (Err Large) out)
    (cond (ltb (length out) (length (headed_of c v))) (put (Err NoRoom) out)
    (put (Ok (length (headed_of c v))) (over 0 (headed_of c v) out))))

pub record Puts (a : Put) (r : Placed) (out' : List ℕ) : Type 0 where
  pub answered : r ≡ a.placed
  pub leaves : out' ≡ a.out

-- ---- a value added after the first n octets of a buffer

pub record Added : Type 0 where
  pub read : Read
  pub out : List ℕ

abbrev pub told : ℕ → Placed → Read
told n (Ok k) = Octets (n + k)
told n (Err NoRoom) = Long
told n (Err Large) = Bad 0 why.value

-- the same of src/, where nothing was put
abbrev pub unread_of : Misfit → Unread
unread_of NoRoom = unread.Long
unread_of Large = unread.Bad 0 whys.Value

abbrev pub add_of : List ℕ → ℕ → Carrier → List ℕ → Added
add_of out n c v = record { read = told n (put_of (drop n out) c v).placed; out = take n out ++ (put_of (drop n out) c v).out }

pub record Adds (a : Added) (r : Read) (out' : List ℕ) : Type 0 where
  pub answered : r ≡ a.read
  pub leaves : out' ≡ a.out
