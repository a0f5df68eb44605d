-- What is said of each carrier (RULES C1, W1 to W7, B1): one table. Assumes nothing: these are definitions.
use Rattle.std.specs.Prelude.{Bool, true, false, cond, ℕ, ◌+◌, ◌*◌, ◌/◌, ◌%◌, eqb, Option, Some, None}
use Rattle.carriers.specs.declared.Carrier.{Carrier}
use Rattle.carriers.specs.declared.Carrier.TheVariants.{Dhcp4, Dhcp6, Router, Ike4, Ike6}
use Rattle.carriers.specs.declared.Facts.{Facts}
use Rattle.carriers.specs.declared.Form.{Form}
use Rattle.carriers.specs.declared.Form.TheVariants.{Wire, Padded, Text}
use Rattle.carriers.specs.declared.Octets.{Octets}
use Rattle.carriers.specs.declared.Eights.{Eights}

-- the carrier of a number (RULES C1)
unfoldable pub chosen_of : ℕ → Option Carrier
chosen_of n =
    cond (eqb n 1) (Some Dhcp4)
    (cond (eqb n 2) (Some Dhcp6)
    (cond (eqb n 3) (Some Router)
    (cond (eqb n 4) (Some Ike4)
    (cond (eqb n 5) (Some Ike6) None))))

-- ---- the table

-- number and code (RULES C1; RFC 9463 §9, RFC 9464 §8); of a header: octets of code and of length each, whether a bit of the code is reserved
-- (RULES W7; RFC 7296 §3.15.1), whether the length is in units of eight and counts the header (RULES W6; RFC 4861 §4.6); whether options are
-- joined, between padding (RULES W2, W4; RFC 2132, RFC 3396); of a body: octets of an address and of a length (RULES C1), and its form (RULES B1)
abbrev row : ℕ → ℕ → ℕ → Bool → Bool → Bool → ℕ → ℕ → Form → Facts
row n c w r e j a l k = record { number = n; code = c; width = w; reserved = r; eights = e; joined = j; address = a; length = l; form = k }

-- each row: number, code, width; reserved, eights, joined; address, length, form (RULES C1)
abbrev pub facts_of : Carrier → Facts
facts_of Dhcp4 = row 1 162 1 false false true 4 1 Wire
facts_of Dhcp6 = row 2 144 2 false false false 16 2 Wire
facts_of Router = row 3 144 1 false true false 16 2 Padded
facts_of Ike4 = row 4 27 2 true false false 4 1 Text
facts_of Ike6 = row 5 28 2 true false false 16 1 Text

-- the carrier's number (RULES C1)
abbrev pub number_of : Carrier → ℕ
number_of c = (facts_of c).number

-- the code of the carrier's own options, or the type of its attributes (RULES C1)
abbrev pub code_of : Carrier → ℕ
code_of c = (facts_of c).code

-- octets of the code in an option's header, of the length, and of the header (RULES C1)
abbrev pub head_width : Carrier → ℕ
head_width c = (facts_of c).width

abbrev pub header_of : Carrier → ℕ
header_of c = head_width c + head_width c

-- whether the highest bit of a 16-bit code is reserved, and the code with that bit taken off (RULES W7)
abbrev pub has_reserved : Carrier → Bool
has_reserved c = (facts_of c).reserved

abbrev pub bare_code : Bool → ℕ → ℕ
bare_code reserved n = cond reserved (n % 32768) n

-- whether a length is in units of eight and counts the header (RULES W6)
abbrev pub in_eights : Carrier → Bool
in_eights c = (facts_of c).eights

-- whether an area has padding and an end, and the data of its own options are one (RULES W2 to W4)
abbrev pub is_joined : Carrier → Bool
is_joined c = (facts_of c).joined

-- carriers 2 to 5, whose options are not joined and whose areas end with their last octet, not with a code
abbrev pub Apart : Bool → Type 0
Apart true = ⊥
Apart false = Unit {0}

abbrev pub Plain : Carrier → Type 0
Plain c = Apart (is_joined c)

-- octets of an address (RULES C1)
abbrev pub address_width : Carrier → ℕ
address_width c = (facts_of c).address

-- octets of the ADN length, of the address length in carriers 1 to 3, and of the parameter length in carrier 3 (RULES C1)
abbrev pub length_width : Carrier → ℕ
length_width c = (facts_of c).length

-- the form of its bodies (RULES B1)
abbrev pub form_of : Carrier → Form
form_of c = (facts_of c).form

-- octets of a lifetime: only carrier 3 has one (RULES B1)
abbrev pub lifetime_in : Form → ℕ
lifetime_in Wire = 0
lifetime_in Padded = 4
lifetime_in Text = 0

abbrev pub lifetime_width : Carrier → ℕ
lifetime_width c = lifetime_in (form_of c)

-- whether the name stands as text (RULES N4), and there is no name-only form (RULES B5)
abbrev pub text_in : Form → Bool
text_in Wire = false
text_in Padded = false
text_in Text = true

abbrev pub as_text : Carrier → Bool
as_text c = text_in (form_of c)

-- ---- lengths

-- a length in octets, and in units of eight octets (RULES B3)
abbrev pub octets : ℕ → Octets
octets n = record { 0 = n }

abbrev pub eights : ℕ → Eights
eights n = record { 0 = n }

-- units of eight as octets, and how many whole units octets are (RULES B3)
abbrev pub octets_of : Eights → Octets
octets_of e = octets (8 * e.0)

abbrev pub eights_of : Octets → Eights
eights_of o = eights (o.0 / 8)
