-- What the functions over the parts of a body write. Assumes nothing: these are definitions.
use Rattle.std.specs.Prelude.{List, ◌++◌, ℕ, length}
use Rattle.octets.specs.Numbers.{be}
use Rattle.carriers.specs.declared.Carrier.{Carrier}
use Rattle.carriers.specs.Carriers.{as_text}
use Rattle.addresses.specs.Addresses.{list_of, kept_of}
use Rattle.blocks.specs.declared.Head.{Head}
use Rattle.records.specs.Records.{name_as, staying, mode_of}

-- a name of a carrier as a sheet holds it
abbrev pub name_in : Carrier → List ℕ → List ℕ
name_in c name = name_as (as_text c) name

-- a name after its length
abbrev pub name_part : List ℕ → List ℕ
name_part name = be 1 (length name) ++ name

-- a record to the end of its name
abbrev pub head_part : Head → List ℕ → List ℕ
head_part h name = be 2 h.priority ++ (be 4 h.lifetime ++ (be 1 (mode_of h.full) ++ name_part name))

-- what mode 1 adds, of addresses and parameters as carried
abbrev pub tail_part : ℕ → List ℕ → List ℕ → List ℕ
tail_part w addresses parameters =
    be 1 (length (kept_of w (list_of w addresses))) ++ (staying w addresses ++ (be 2 (length parameters) ++ parameters))
