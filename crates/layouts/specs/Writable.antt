-- Records whose fields have room in their carrier, and the octets that they take by their lengths alone (RULES L3, L4, B1).
-- Assumes nothing: these are definitions.
use Rattle.std.specs.Prelude.{◌≡◌, Bool, true, false, cond, List, [], ◌∷◌, ℕ, ◌+◌, ◌-◌, ◌*◌, ◌/◌, ◌%◌, ◌^◌, ◌≤◌, ◌<◌, length}
use Rattle.numbers.specs.Limit as limit
use Rattle.carriers.specs.declared.Carrier.{Carrier}
use Rattle.carriers.specs.declared.Carrier.TheVariants.{Dhcp4, Router}
use Rattle.carriers.specs.declared.Form.{Form}
use Rattle.carriers.specs.Carriers.{header_of, address_width, form_of, lifetime_width, text_in, as_text}
use Rattle.blocks.specs.Block.{Fields, size_by, option_size}

-- the full form, with addresses of w octets: one address or more, and both within their limits (RULES R23, R24)
pub record WritableTail (w : ℕ) (r : Fields) : Type 0 where
  pub some : 0 < length r.addresses
  pub whole : length r.addresses % w ≡ 0
  pub few : length r.addresses / w ≤ limit.addresses
  pub short : length r.parameters ≤ limit.parameters

-- a record that has room in its carrier, the name in wire form; a lifetime is 0 but in carrier 3
pub record Writable (c : Carrier) (r : Fields) : Type 0 where
  pub priority : r.priority < 65536
  pub lifetime : r.lifetime < 256 ^ lifetime_width c
  pub some : 2 ≤ length r.name  -- as text the name is 2 octets shorter
  pub short : length r.name ≤ 255
  pub tail : r.full ≡ true → WritableTail (address_width c) r
  pub name_only : r.full ≡ false → (r.addresses ≡ []) × (r.parameters ≡ []) × (as_text c ≡ false)
  pub units : c ≡ Router → option_size r ≤ limit.option  -- RULES R44

-- ---- octets by lengths: a name of n octets in wire form, a of addresses, p of parameters

-- the body; as text the name is 2 octets shorter
abbrev pub body_by : Form → Carrier → Bool → ℕ → ℕ → ℕ → ℕ
body_by k c full n a p = size_by k c full (cond (text_in k) (n - 2) n) a p

abbrev pub body_octets : Carrier → Bool → ℕ → ℕ → ℕ → ℕ
body_octets c full n a p = body_by (form_of c) c full n a p

-- octets that a body has at most beside name, addresses and parameters: 12 in carrier 3, and padding of 7
abbrev pub overhead : ℕ
overhead = 19

-- octets of addresses, and of a body, at most: 63 addresses of 16; a name of 255 with as many addresses and 1,024 octets of parameters
abbrev pub most_addresses : ℕ
most_addresses = limit.addresses * 16

abbrev pub most_body : ℕ
most_body = overhead + (255 + most_addresses + limit.parameters)

-- carriers 2 to 5: the option or attribute
abbrev pub option_octets : Carrier → Bool → ℕ → ℕ → ℕ → ℕ
option_octets c full n a p = header_of c + body_octets c full n a p

-- carrier 1: the instance with its length
abbrev pub instance_octets : Bool → ℕ → ℕ → ℕ → ℕ
instance_octets full n a p = 2 + body_octets Dhcp4 full n a p

-- carrier 1: the instances of the records
abbrev pub joined_octets : List Fields → ℕ
joined_octets [] = 0
joined_octets (r ∷ rs) = instance_octets r.full (length r.name) (length r.addresses) (length r.parameters) + joined_octets rs
