-- A body split into its fields, computed (RULES B1 to B7): 20 goes before 29. Assumes nothing: these are definitions.
use Rattle.std.specs.Prelude.{Bool, cond, ◌&&◌, List, ℕ, ◌*◌, ltb, eqb, length}
use Rattle.octets.specs.Numbers.{all_zero}
use Rattle.octets.specs.Fields.{part, number, counted}
use Rattle.numbers.specs.Fault as fault
use Rattle.carriers.specs.declared.Carrier.{Carrier}
use Rattle.carriers.specs.declared.Carrier.TheVariants.{Router}
use Rattle.carriers.specs.declared.Form.{Form}
use Rattle.carriers.specs.declared.Form.TheVariants.{Wire, Padded, Text}
use Rattle.carriers.specs.Carriers.{length_width, form_of, lifetime_width, address_width}
use Rattle.blocks.specs.Block.{Fields, name_only, whole}

-- a fault's number, or the fields
pub data Parsed : Type 0 where
  bad : ℕ → Parsed
  fields : Fields → Parsed

-- a field runs past the body's end (RULES R20)
abbrev pub short : Parsed
short = bad fault.field

-- carriers 1 to 3: priority, lifetime (carrier 3), ADN length, name (RFC 9463 §5.1, §4.1, §6.1)
abbrev pub opening : Carrier → List ℕ → (ℕ → ℕ → List ℕ → List ℕ → Parsed) → Parsed
opening c l next =
    number short 2 l (λ priority l.
    number short (lifetime_width c) l (λ lifetime l.
    counted short (length_width c) l (λ name l.
    next priority lifetime name l)))

-- carriers 1 and 2, after the name: nothing, or address length, addresses, parameters (RULES B1, B5; RFC 9463 §3.1.6, §5.1, §4.1)
abbrev pub after_name : Carrier → ℕ → ℕ → List ℕ → List ℕ → Parsed
after_name c priority lifetime name l =
    cond (eqb (length l) 0) (fields (name_only priority lifetime name))
    (counted short (length_width c) l (λ addresses parameters.
    fields (whole priority lifetime name addresses parameters)))

-- padding: 0 to 7 zeros
unfoldable pub is_padding : List ℕ → Bool
is_padding l = ltb (length l) 8 && all_zero l

-- l is padding, or the block's fault is that it is not
abbrev pub padded : List ℕ → Fields → Parsed
padded l f = cond (is_padding l) (fields f) (bad fault.padding)

-- carrier 3, after the name: padding alone where fewer than 8 octets follow, else address length, addresses, parameter length, parameters,
-- padding (RULES B5, B6; RFC 9463 §6.1)
abbrev pub after_name_padded : ℕ → ℕ → List ℕ → List ℕ → Parsed
after_name_padded priority lifetime name l =
    cond (ltb (length l) 8) (padded l (name_only priority lifetime name))
    (counted short (length_width Router) l (λ addresses l.
    counted short (length_width Router) l (λ parameters l.
    padded l (whole priority lifetime name addresses parameters))))

-- carriers 4 and 5: priority, number of addresses, ADN length, addresses, name, parameters (RFC 9464 Figure 1)
abbrev pub attribute : Carrier → List ℕ → Parsed
attribute c l =
    number short 2 l (λ priority l.
    number short 1 l (λ count l.
    number short (length_width c) l (λ name_length l.
    part short (count * address_width c) l (λ addresses l.
    part short name_length l (λ name parameters.
    fields (whole priority 0 name addresses parameters))))))

-- the fields of a body, or its fault: 20 goes before 29, since the padding is what the fields before it left
abbrev pub parse_by : Form → Carrier → List ℕ → Parsed
parse_by Wire c l = opening c l (after_name c)
parse_by Padded c l = opening c l after_name_padded
parse_by Text c l = attribute c l

unfoldable pub parse : Carrier → List ℕ → Parsed
parse c l = parse_by (form_of c) c l
