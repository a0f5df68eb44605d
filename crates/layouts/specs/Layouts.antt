-- The octets of a record's option in each carrier, and of the joined instances of carrier 1 (RULES B1). A record here is as a
-- sheet holds it: the name in wire form. Assumes nothing: these are definitions.
use Rattle.std.specs.Prelude.{Bool, cond, List, [], map, ℕ}
use Rattle.octets.specs.Lists.{flat}
use Rattle.octets.specs.Fields.{put_counted}
use Rattle.carriers.specs.declared.Carrier.{Carrier}
use Rattle.carriers.specs.declared.Carrier.TheVariants.{Dhcp4}
use Rattle.carriers.specs.Carriers.{is_joined, as_text}
use Rattle.texts.specs.Texts.{text_of}
use Rattle.blocks.specs.Block.{Fields, layout}
use Rattle.frames.specs.Emit.{option_of}

-- the fields as the carrier has them: in carriers 4 and 5 the name is text (RULES N4)
abbrev pub carried_as : Bool → Fields → Fields
carried_as text r = record {
  priority = r.priority;
  lifetime = r.lifetime;
  full = r.full;
  name = cond text (text_of r.name) r.name;
  addresses = r.addresses;
  parameters = r.parameters;
}

abbrev pub carried_of : Carrier → Fields → Fields
carried_of c r = carried_as (as_text c) r

-- carriers 2 to 5: the option or attribute of a record (RULES E3)
abbrev pub own_option : Carrier → Fields → List ℕ
own_option c r = option_of c (layout c (carried_of c r))

-- carrier 1: the instance of a record, after its 16-bit length (RULES B1)
abbrev pub instance_of : Fields → List ℕ
instance_of r = put_counted 2 (layout Dhcp4 r) []

-- the instances of the records one after another (RULES D6)
abbrev pub joined_of : List Fields → List ℕ
joined_of rs = flat (map instance_of rs)

-- the records one after another, in sheet order: in carrier 1 the instances joined, else an option or attribute each (RULES E1)
abbrev pub stream_of : Carrier → List Fields → List ℕ
stream_of c rs = cond (is_joined c) (joined_of rs) (flat (map (own_option c) rs))
