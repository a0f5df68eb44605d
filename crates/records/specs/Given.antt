-- How fields are given to `put_fields`, which of them it takes, and what it writes (RULES S2). Assumes nothing: these are definitions.
use Rattle.std.specs.Prelude.{◌≡◌, true, List, ℕ, ◌≤◌, ◌<◌, length}
use Rattle.numbers.specs.Limit as limit
use Rattle.addresses.specs.Addresses.{Width, list_of, kept_of}
use Rattle.blocks.specs.Block.{Fields}
use Rattle.records.specs.declared.Given.{Given}
use Rattle.records.specs.Records.{staying, name_as, keep_as, record_by}

-- the record of fields given so: the name in wire form, the addresses that stay
unfoldable pub record_as : Given → Fields → List ℕ
record_as g f = record_by g.width (keep_as g.text g.width f)

-- in the full form the counts have room, and where the list is said to be clean nothing of it is dropped
pub record GivenTail (g : Given) (f : Fields) : Type 0 where
  pub few : length (kept_of g.width (list_of g.width f.addresses)) ≤ limit.addresses
  pub short : length f.parameters ≤ limit.parameters
  pub clean : g.clean ≡ true → staying g.width f.addresses ≡ f.addresses

-- fields that have room in a record
pub record Puttable (g : Given) (f : Fields) : Type 0 where
  pub priority : f.priority < 65536
  pub lifetime : f.lifetime < 4294967296
  pub name : length (name_as g.text f.name) ≤ 255
  pub width : Width g.width
  pub tail : f.full ≡ true → GivenTail g f
