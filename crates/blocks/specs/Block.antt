-- Blocks: the fields of a block's body (in carrier 1 of one instance, after its length L), and fields laid out (RULES B1 to B8).
-- Assumes nothing: these are definitions.
use Rattle.std.specs.Prelude.{◌≡◌, Bool, true, false, cond, List, [], ◌++◌, ℕ, ◌+◌, ◌-◌, ◌/◌, ◌%◌, ◌^◌, ◌≤◌, ◌<◌, length}
use Rattle.octets.specs.Numbers.{be, zeros}
use Rattle.octets.specs.Fields.{put_counted}
use Rattle.carriers.specs.declared.Carrier.{Carrier}
use Rattle.carriers.specs.declared.Carrier.TheVariants.{Router}
use Rattle.carriers.specs.declared.Form.{Form}
use Rattle.carriers.specs.declared.Form.TheVariants.{Wire, Padded, Text}
use Rattle.blocks.specs.declared.Head.{Head}
use Rattle.carriers.specs.Carriers.{header_of, length_width, form_of, lifetime_width, address_width, as_text}

-- what one body says (RULES B1), or what a record of a sheet holds (RULES S2): of a body name and addresses are as carried, in carriers 4 and 5 the name
-- is text (RULES N4); of a record the name is in wire form
pub record Fields : Type 0 where
  pub priority : ℕ
  pub lifetime : ℕ
  pub full : Bool
  pub name : List ℕ
  pub addresses : List ℕ
  pub parameters : List ℕ

-- a head of three numbers, and the fields of a head and three parts (RULES B1)
abbrev pub head_with : ℕ → ℕ → Bool → Head
head_with p t full = record { priority = p; lifetime = t; full = full }

abbrev pub fields_of : Head → List ℕ → List ℕ → List ℕ → Fields
fields_of h n a q = record { priority = h.priority; lifetime = h.lifetime; full = h.full; name = n; addresses = a; parameters = q }

-- the two forms, name only and full (RULES B5, B6)
abbrev pub name_only : ℕ → ℕ → List ℕ → Fields
name_only p t n = record { priority = p; lifetime = t; full = false; name = n; addresses = []; parameters = [] }

abbrev pub whole : ℕ → ℕ → List ℕ → List ℕ → List ℕ → Fields
whole p t n a q = record { priority = p; lifetime = t; full = true; name = n; addresses = a; parameters = q }

-- A body is split into these fields in `Parse`: each field is read from the front of what the fields before it left.

-- ---- writing: the fields in their order (RULES B1)

-- carriers 1 to 3: priority, lifetime (in carrier 3), ADN length and name, and then l (RULES B1)
abbrev pub put_opening : Carrier → Fields → List ℕ → List ℕ
put_opening c f l = be 2 f.priority ++ (be (lifetime_width c) f.lifetime ++ put_counted (length_width c) f.name l)

-- carriers 1 and 2, after the name: address length, addresses and parameters, or nothing (RULES B1, B5)
abbrev pub put_after_name : Carrier → Fields → List ℕ
put_after_name c f = cond f.full (put_counted (length_width c) f.addresses f.parameters) []

-- what brings n octets to the next multiple of 8 (RULES B7)
abbrev pub gap : ℕ → ℕ
gap n = (8 - n % 8) % 8

-- octets of a carrier 3 body before its padding, with a name of n octets, a of addresses and p of parameters: priority 2, lifetime 4, ADN
-- length 2 and the name; in the full form also an address length of 2, a parameter length of 2, and both parts (RULES B8; RFC 9463 §6.1)
abbrev pub unpadded : Bool → ℕ → ℕ → ℕ → ℕ
unpadded full n a p = cond full (12 + n + a + p) (8 + n)

-- the zeros after a body of n octets: with its header before it, it is brought to the next multiple of 8 (RULES B7); and those after the body of
-- these fields, their number and the octets
abbrev pub padding_after : ℕ → ℕ
padding_after n = gap (header_of Router + n)

abbrev pub padding_of : Fields → ℕ
padding_of f = padding_after (unpadded f.full (length f.name) (length f.addresses) (length f.parameters))

abbrev pub padding : Fields → List ℕ
padding f = zeros (padding_of f)

-- carrier 3, after the name: address length, addresses, parameter length, parameters and padding, or padding alone (RULES B1, B5)
abbrev pub put_after_name_padded : Fields → List ℕ
put_after_name_padded f =
    cond f.full (put_counted (length_width Router) f.addresses (put_counted (length_width Router) f.parameters (padding f))) (padding f)

-- carriers 4 and 5: priority, number of addresses, ADN length, addresses, name, parameters (RULES B1; RFC 9464 Figure 1)
abbrev pub put_attribute : Carrier → Fields → List ℕ
put_attribute c f =
    be 2 f.priority
    ++ (be 1 (length f.addresses / address_width c)
    ++ (be (length_width c) (length f.name)
    ++ (f.addresses ++ (f.name ++ f.parameters))))

-- the body that says these fields (RULES B1)
abbrev pub layout_by : Form → Carrier → Fields → List ℕ
layout_by Wire c f = put_opening c f (put_after_name c f)
layout_by Padded c f = put_opening c f (put_after_name_padded f)
layout_by Text c f = put_attribute c f

unfoldable pub layout : Carrier → Fields → List ℕ
layout c f = layout_by (form_of c) c f

-- where the name stands in a body with m octets of addresses: after priority, lifetime (in carrier 3) and ADN length; in carriers 4 and 5 after
-- priority, number of addresses, ADN length and the addresses (RULES B1; `name-stands`)
abbrev pub name_at : Carrier → ℕ → ℕ
name_at c m = cond (as_text c) (4 + m) (2 + lifetime_width c + length_width c)

-- octets of a body with a name of n octets, a of addresses and p of parameters: L in carrier 1, the option's length in carriers 2, 4 and 5,
-- and in carrier 3 what follows type and length (RULES B1, B8)
abbrev pub size_by : Form → Carrier → Bool → ℕ → ℕ → ℕ → ℕ
size_by Wire c full n a p = cond full (2 + length_width c + length_width c + n + a + p) (2 + length_width c + n)
size_by Padded c full n a p = unpadded full n a p + padding_after (unpadded full n a p)
size_by Text c full n a p = 4 + a + n + p

-- octets of the body that fields are laid out to (RULES B1)
abbrev pub size_of : Carrier → Fields → ℕ
size_of c f = size_by (form_of c) c f.full (length f.name) (length f.addresses) (length f.parameters)

-- octets of a carrier 3 option: 10 + name octets, or 14 + name + addresses + parameters, rounded up to 8 (RULES B8; the law `option-rounded`)
abbrev pub option_size : Fields → ℕ
option_size f = header_of Router + size_of Router f

-- octets of an option of carrier 3 before it is rounded: 10 + name, or 14 + name + addresses + parameters (RULES B8)
abbrev pub stated : Fields → ℕ
stated f = cond f.full (14 + length f.name + length f.addresses + length f.parameters) (10 + length f.name)

-- ---- what can be laid out, and what a carrier can bring

-- the name-only form has no addresses and no parameters (RULES B5)
abbrev pub Tail : Bool → Type 0 → Fields → Type 0
Tail true fits f = fits
Tail false fits f = (f.addresses ≡ []) × (f.parameters ≡ [])

-- carriers 1 and 2: the address length has room (RULES C1)
abbrev pub FitsNamed : Carrier → Fields → Type 0
FitsNamed c f = Tail f.full (length f.addresses < 256 ^ length_width c) f

-- carrier 3: both lengths have room, and in the full form, with the two length fields of 2 octets each, 8 octets or more follow the name (RULES B6)
abbrev pub FitsRouter : Fields → Type 0
FitsRouter f =
    Tail f.full
    ((length f.addresses < 256 ^ length_width Router) × (length f.parameters < 256 ^ length_width Router)
    × (4 ≤ length f.addresses + length f.parameters + padding_of f))
    f

-- carriers 4 and 5: always the full form, with whole addresses whose number has room (RULES B1, B5)
abbrev pub FitsAttribute : Carrier → Fields → Type 0
FitsAttribute c f = (f.full ≡ true) × (length f.addresses % address_width c ≡ 0) × (length f.addresses / address_width c < 256)

-- the same by the form, and by the carrier (RULES B1)
abbrev pub FitsBy : Form → Carrier → Fields → Type 0
FitsBy Wire c f = FitsNamed c f
FitsBy Padded c f = FitsRouter f
FitsBy Text c f = FitsAttribute c f

abbrev pub FitsTail : Carrier → Fields → Type 0
FitsTail c f = FitsBy (form_of c) c f

-- each number has room in its field; so a lifetime is 0 but in carrier 3 (RULES B1, S4)
pub record Fits (c : Carrier) (f : Fields) : Type 0 where
  pub priority : f.priority < 65536
  pub lifetime : f.lifetime < 256 ^ lifetime_width c
  pub name : length f.name < 256 ^ length_width c
  pub tail : FitsTail c f

-- in carrier 3 the option, with its type and length, is a multiple of 8 (RULES W6)
abbrev pub PossibleBy : Form → List ℕ → Type 0
PossibleBy Wire l = Unit {0}
PossibleBy Padded l = (length l + header_of Router) % 8 ≡ 0
PossibleBy Text l = Unit {0}

abbrev pub Possible : Carrier → List ℕ → Type 0
Possible c l = PossibleBy (form_of c) l
