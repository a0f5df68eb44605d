-- Where the fields of a body end, and what the judge's number says of them: so every place is within its body. Assumes nothing: these are definitions.
use Rattle.std.specs.Prelude.{◌≡◌, true, false, ◌⊎◌, List, ℕ, ◌+◌, ◌*◌, ◌≤◌, ◌<◌, length}
use Rattle.numbers.specs.Fault as fault
use Rattle.numbers.specs.Limit as limit
use Rattle.carriers.specs.declared.Carrier.{Carrier}
use Rattle.carriers.specs.Carriers.{address_width, as_text}
use Rattle.blocks.specs.Block.{Fields, name_at}
use Rattle.judge.specs.Place.{Judged}
use Rattle.findings.specs.Troubles.{parameters_at}

-- fields that end where their body does, or before
pub record Sized (c : Carrier) (body : List ℕ) (f : Fields) : Type 0 where
  pub named : name_at c (length f.addresses) + length f.name ≤ length body
  pub whole : f.full ≡ true → parameters_at c (length f.name) (length f.addresses) + length f.parameters ≤ length body
  pub bare : f.full ≡ false → (length f.addresses ≡ 0) × (length f.parameters ≡ 0)
  pub text : as_text c ≡ true → f.full ≡ true

-- of fields that are judged so: a bad place is within the name; 23 to 28 is of the full form; 24 is of one of the two that are too many
pub record Placed (c : Carrier) (f : Fields) (j : Judged) : Type 0 where
  pub inside : j.place ≤ length f.name
  pub full_form : fault.name < j.fault → (as_text c ≡ true → f.full ≡ true) → f.full ≡ true
  pub too_much : j.fault ≡ fault.limit → (limit.addresses * address_width c < length f.addresses) ⊎ (limit.parameters < length f.parameters)
