-- What is said of the options 162 of carrier 1, whose data are joined (RULES W4; RFC 3396). Assumes nothing: these are definitions.
use Rattle.std.specs.Prelude.{◌≡◌, ℕ, ◌≤◌, List, [], ◌∷◌, length, drop, Result, Ok, Err}
use Rattle.octets.specs.Over.{Wrote}
use Rattle.numbers.specs.Refusal as refusal
use Rattle.numbers.specs.declared.Refusal.{Refusal}
use Rattle.carriers.specs.declared.Carrier.TheVariants.{Dhcp4}
use Rattle.frames.specs.declared.Gathered.{Gathered}
use Rattle.frames.specs.declared.Gathered.TheVariants.{Absent, One, Many}
use Rattle.octets.specs.Lists.{flat}
use Rattle.frames.specs.Frame.{Framed, framed_number, bodies_in, frame}
use Rattle.frames.specs.Step.{part}
use Rattle.frames.specs.Told.{FramedTo, joined_length}

-- two own options or more, if the area can be framed
abbrev pub Several : Framed → Type 0
Several f = framed_number f ≡ 0 → 2 ≤ length (bodies_in f)

-- what is told of the own options of an area that is framed to f: the number of the framing, and that there is none, or one and where its body is.
-- Of several it is left open whether the area can be framed: it is framed as its part from `from` on is
abbrev pub Tells : List ℕ → Framed → Result Gathered Refusal → Type 0
Tells area f (Err r) = FramedTo (refusal.number_of r) [] f
Tells area f (Ok Absent) = FramedTo 0 [] f
Tells area f (Ok (One start end)) = (start ≤ end) × (end ≤ length area) × FramedTo 0 (part start end area ∷ []) f
Tells area f (Ok (Many from)) = (from ≤ length area) × (f ≡ frame Dhcp4 (drop from area)) × Several f

abbrev pub GatheredFrom : List ℕ → Result Gathered Refusal → Type 0
GatheredFrom area r = Tells area (frame Dhcp4 area) r

-- what joining the bodies of an area that is framed to f answers: the number of the framing; and where it is 0, the bodies stand one after another
-- at the front of a buffer, with their octets counted. Else nothing is said of the buffer, which the caller discards
pub record Joins (f : Framed) (out : List ℕ) (r : Result ℕ Refusal) (out' : List ℕ) : Type 0 where
  pub number : refusal.number_in r ≡ framed_number f
  pub octets : refusal.number_in r ≡ 0 → Wrote 0 (flat (bodies_in f)) out (joined_length r) out'
