-- Why a name is no host name (RULES N1, N2, N4), more closely than by the number of RULES R22: the same names as in src/.
-- Assumes nothing: these are definitions.
use Rattle.std.specs.Prelude.{ℕ, Option, Some, None}
use Rattle.reasons.specs.declared.Reason.{Reason}
use Rattle.reasons.specs.declared.Reason.TheVariants.{Cut, Empty, Pointer, Label, Long, After, Underscore, Hyphen, Dot, Octet}

-- the octets stop before the root octet, or within a label
abbrev pub cut : ℕ
cut = 1

-- there is no label
abbrev pub empty : ℕ
empty = 2

-- a pointer into a message (RFC 1035 §4.1.4) in the place of a length
abbrev pub pointer : ℕ
pointer = 3

-- a label of more than 63 octets
abbrev pub label : ℕ
label = 4

-- a name of more than 255 octets, as text of more than 253
abbrev pub long : ℕ
long = 5

-- octets after the root octet
abbrev pub after : ℕ
after = 6

abbrev pub underscore : ℕ
underscore = 7

-- a hyphen at the beginning or the end of a label
abbrev pub hyphen : ℕ
hyphen = 8

-- a dot at the beginning or the end, or two side by side
abbrev pub dot : ℕ
dot = 9

-- an octet that is no letter, digit or hyphen
abbrev pub octet : ℕ
octet = 10

-- the number of a reason of src/
abbrev pub number_of : Reason → ℕ
number_of Cut = cut
number_of Empty = empty
number_of Pointer = pointer
number_of Label = label
number_of Long = long
number_of After = after
number_of Underscore = underscore
number_of Hyphen = hyphen
number_of Dot = dot
number_of Octet = octet

-- and 0 for none
abbrev pub number_in : Option Reason → ℕ
number_in (Some r) = number_of r
number_in None = 0
