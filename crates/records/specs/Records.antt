-- A record as a sheet holds it (RULES S2), and what one body (in carrier 1 one instance) yields (RULES N4, A1, T2).
-- Assumes nothing: these are definitions.
use Rattle.std.specs.Prelude.{Bool, cond, List, [], ◌++◌, ℕ, ◌/◌, length}
use Rattle.octets.specs.Numbers.{be}
use Rattle.octets.specs.Lists.{flat}
use Rattle.carriers.specs.declared.Carrier.{Carrier}
use Rattle.carriers.specs.Carriers.{address_width, as_text}
use Rattle.texts.specs.Texts.{wire_of}
use Rattle.addresses.specs.Addresses.{list_of, kept_of}
use Rattle.blocks.specs.Block.{Fields}
use Rattle.judge.specs.Place.{Judged}
use Rattle.judge.specs.Place.{from}

-- the addresses that stay, of w octets each (RULES A1, A2)
abbrev pub staying : ℕ → List ℕ → List ℕ
staying w addresses = flat (kept_of w (list_of w addresses))

-- a name as a sheet holds it: in wire form, whether it came as text or not (RULES N4)
abbrev pub name_as : Bool → List ℕ → List ℕ
name_as text name = cond text (wire_of name) name

-- what is kept of fields: the name in wire form, the addresses of w octets that stay (RULES N4, A1)
abbrev pub keep_as : Bool → ℕ → Fields → Fields
keep_as text w f = record {
  priority = f.priority;
  lifetime = f.lifetime;
  full = f.full;
  name = name_as text f.name;
  addresses = staying w f.addresses;
  parameters = f.parameters;
}

-- what reading keeps (RULES N4, A1)
abbrev pub keep_of : Carrier → Fields → Fields
keep_of c f = keep_as (as_text c) (address_width c) f

-- a body's fault with its place in the body, or its record (RULES T2, W11)
pub data Outcome : Type 0 where
  faulty : Judged → Outcome
  kept : Fields → Outcome

-- the same, with n octets before the body: the place of fault 22 is counted from there (RULES W11)
abbrev pub further : ℕ → Outcome → Outcome
further n (faulty j) = faulty (from n j)
further n (kept r) = kept r

-- ---- a record's octets (RULES S2)

-- octets before the name: priority 2, lifetime 4, mode 1, name length 1; and where lifetime, mode and name length stand among them (RULES S2)
abbrev pub head_size : ℕ
head_size = 8

abbrev pub lifetime_at : ℕ
lifetime_at = 2

abbrev pub mode_at : ℕ
mode_at = 6

abbrev pub name_length_at : ℕ
name_length_at = 7

-- octets that mode 1 adds beside addresses and parameters: address count 1, parameter length 2 (RULES S2)
abbrev pub tail_size : ℕ
tail_size = 3

-- mode 0 name only, 1 full (RULES S2)
abbrev pub mode_of : Bool → ℕ
mode_of full = cond full 1 0

-- in mode 1 also: address count, addresses of w octets, parameter length, parameters (RULES S2)
abbrev pub tail_of : ℕ → Bool → List ℕ → List ℕ → List ℕ
tail_of w full addresses parameters =
    cond full (be 1 (length addresses / w) ++ (addresses ++ (be 2 (length parameters) ++ parameters))) []

-- priority 2, lifetime 4, mode 1, name length 1, name, and what mode 1 adds, with addresses of w octets (RULES S2)
abbrev pub record_by : ℕ → Fields → List ℕ
record_by w r =
    be 2 r.priority
    ++ (be 4 r.lifetime
    ++ (be 1 (mode_of r.full)
    ++ (be 1 (length r.name)
    ++ (r.name
    ++ tail_of w r.full r.addresses r.parameters))))

-- the same by the carrier, which says how many octets an address has (RULES S2, C1)
unfoldable pub record_of : Carrier → Fields → List ℕ
record_of c r = record_by (address_width c) r
