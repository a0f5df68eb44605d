-- Own options as octets (RULES W1, W5 to W7; the reserved bit of carriers 4 and 5 is written as 0). Assumes nothing: these are definitions.
use Rattle.std.specs.Prelude.{◌≡◌, Bool, true, false, cond, List, ◌++◌, map, ℕ, ◌+◌, ◌*◌, ◌/◌, ◌%◌, ◌^◌, ◌<◌, length}
use Rattle.octets.specs.Lists.{flat}
use Rattle.octets.specs.Numbers.{be}
use Rattle.carriers.specs.declared.Carrier.{Carrier}
use Rattle.carriers.specs.Carriers.{code_of, head_width, header_of, in_eights}

-- the length that tells of a body of n octets after h octets of header; in units of eight the header is counted (RULES W6; RFC 4861 §4.6)
abbrev pub length_said : Bool → ℕ → ℕ → ℕ
length_said eights h n = cond eights ((n + h) / 8) n

abbrev pub length_in : Carrier → ℕ → ℕ
length_in c n = length_said (in_eights c) (header_of c) n

-- the header in front of a body of n octets: the carrier's code and the length; and an option, the header and the body (RULES C1)
abbrev pub head_of : Carrier → ℕ → List ℕ
head_of c n = be (head_width c) (code_of c) ++ be (head_width c) (length_in c n)

abbrev pub option_of : Carrier → List ℕ → List ℕ
option_of c body = head_of c (length body) ++ body

-- a body of n octets whose length w octets can tell, after h octets of header (RULES C1, W6)
abbrev pub CanSay : Bool → ℕ → ℕ → ℕ → Type 0
CanSay true h w n = ((n + h) % 8 ≡ 0) × (n + h < 8 * 256 ^ w)
CanSay false h w n = n < 256 ^ w

abbrev pub Fits : Carrier → List ℕ → Type 0
Fits c body = CanSay (in_eights c) (header_of c) (head_width c) (length body)

-- an option for each body, one after another (RULES E3)
abbrev pub options_of : Carrier → List (List ℕ) → List ℕ
options_of c bs = flat (map (option_of c) bs)
