-- Words for the theorems: the number by which reading discards, the octets at a spot, and fields at their places. Assumes nothing: these are definitions.
use Rattle.std.specs.Prelude.{true, false, cond, ◌≡◌, List, ℕ, ◌+◌, ◌*◌, ◌≤◌, ◌<◌, length, get_or, take}
use Rattle.octets.specs.Lists.{Stands}
use Rattle.octets.specs.Numbers.{number_at}
use Rattle.carriers.specs.declared.Carrier.{Carrier}
use Rattle.carriers.specs.Carriers.{length_width, address_width, as_text}
use Rattle.blocks.specs.Block.{Fields, name_at}
use Rattle.blocks.specs.Parse.{is_padding}
use Rattle.frames.specs.Step.{part}
use Rattle.records.specs.Records.{Outcome, faulty, kept}
use Rattle.reading.specs.Result.{Yield, discarded, yields}
use Rattle.findings.specs.Troubles.{address_length_at, addresses_at, parameters_at}
use Rattle.findings.specs.Spots.{Spot}

-- the number of a body's fault, and of a block's (RULES T2): 0 where it brings records
abbrev pub fault_in : Outcome → ℕ
fault_in (faulty j) = j.fault
fault_in (kept r) = 0

abbrev pub block_fault : Yield → ℕ
block_fault (discarded j) = j.fault
block_fault (yields rs) = 0

-- the octets at a spot, and a spot that lies in the area
abbrev pub body_at : List ℕ → Spot → List ℕ
body_at area s = part s.start s.end area

abbrev pub Lies : List ℕ → Spot → Type 0
Lies area s = (s.start ≤ s.end) × (s.end ≤ length area)

-- k octets of `rest` are padding, and k + 1 are not (RULES B7)
pub record FirstUnpadded (rest : List ℕ) (k : ℕ) : Type 0 where
  pub within : k < length rest
  pub padding : is_padding (take k rest) ≡ true
  pub ends : is_padding (take (k + 1) rest) ≡ false

-- the octets of addresses that a number at a place says: an address length; in carriers 4 and 5 one octet, the number of addresses (RULES B1)
abbrev pub addresses_said : Carrier → ℕ → List ℕ → ℕ
addresses_said c at body = cond (as_text c) (get_or body at 0 * address_width c) (number_at (length_width c) at body)

-- the fields of a body at the places that are told for them (RULES B1)
pub record FieldsStand (c : Carrier) (body : List ℕ) (f : Fields) : Type 0 where
  pub name : Stands f.name (name_at c (length f.addresses)) body
  pub address_length : f.full ≡ true → addresses_said c (address_length_at c (length f.name)) body ≡ length f.addresses
  pub addresses : f.full ≡ true → Stands f.addresses (addresses_at c (length f.name)) body
  pub parameters : f.full ≡ true → Stands f.parameters (parameters_at c (length f.name) (length f.addresses)) body
