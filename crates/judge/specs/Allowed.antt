-- What RFC 9463, 9464, 9460 and the limits (RULES L3, L4) allow of a record's fields, stated as what is true of the octets, not as steps to take; and
-- the number of the first rule that is broken (RULES T2 to T5). Assumes nothing: these are definitions.
use Rattle.std.specs.Prelude.{◌≡◌, ◌⊎◌, Bool, true, false, List, ℕ, ◌+◌, ◌/◌, ◌%◌, ◌≤◌, ◌<◌, length}
use Rattle.octets.specs.Lists.{All}
use Rattle.numbers.specs.Fault as fault
use Rattle.numbers.specs.Limit as limit
use Rattle.carriers.specs.declared.Carrier.{Carrier}
use Rattle.carriers.specs.Carriers.{address_width, as_text}
use Rattle.names.specs.Names.{IsName, FirstBad}
use Rattle.texts.specs.Texts.{IsText}
use Rattle.addresses.specs.Addresses.{list_of}
use Rattle.addresses.specs.Ranges.{Unusable}
use Rattle.svcparams.specs.Param.{Param, keys}
use Rattle.svcparams.specs.Accepted.{Ordered, Hinted, Accepted}
use Rattle.svcparams.specs.Accepted as value
use Rattle.blocks.specs.Block.{Fields}
use Rattle.judge.specs.declared.Side.{Side}
use Rattle.judge.specs.declared.Side.TheVariants.{Reading, Writing}

-- ---- each field

-- a name is the wire form of labels that obey the rule (RULES N1, N2); what carriers 4 and 5 bring is their text (RULES N4)
abbrev pub NameBy : Bool → List ℕ → Type 0
NameBy true name = IsText name
NameBy false name = IsName name

-- when read, the name is as the carrier brings it; when written, as a sheet holds it (RULES N4)
abbrev pub NameAllowed : Side → Carrier → List ℕ → Type 0
NameAllowed Reading c name = NameBy (as_text c) name
NameAllowed Writing c name = IsName name

-- addresses of w octets: one at least, and whole (RULES R23; RFC 9463 §3.1.8, §4.1, §5.1, §6.1; RFC 9464 §3.1)
abbrev pub Whole : ℕ → List ℕ → Type 0
Whole w addresses = (0 < length addresses) × (length addresses % w ≡ 0)

-- at most 63 addresses as carried, and 1,024 octets of parameters (RULES L3, L4)
abbrev pub Few : ℕ → List ℕ → List ℕ → Type 0
Few w addresses parameters = (length addresses / w ≤ limit.addresses) × (length parameters ≤ limit.parameters)

-- when read, not every address is to be dropped; when written, none is (RULES R25, A3)
abbrev pub Usable : Side → ℕ → List ℕ → Type 0
Usable Reading w addresses = All (Unusable w) (list_of w addresses) → ⊥
Usable Writing w addresses = All (λ a. Unusable w a → ⊥) (list_of w addresses)

-- ---- what is allowed

-- addresses of w octets, and acceptable service parameters (RULES R23 to R28; RFC 9463 §3.1.8, RFC 9464 §3.1)
pub record TailAllowed (side : Side) (w : ℕ) (addresses parameters : List ℕ) : Type 0 where
  pub whole : Whole w addresses
  pub few : Few w addresses parameters
  pub usable : Usable side w addresses
  pub parameters_allowed : Accepted parameters

-- ServiceMode (priority not 0), a name, and either the full form or, in carriers 1 to 3, the name alone (RULES R21 to R28)
pub record Allowed (side : Side) (c : Carrier) (f : Fields) : Type 0 where
  pub service : f.priority ≡ 0 → ⊥
  pub named : NameAllowed side c f.name
  pub full_form : f.full ≡ true → TailAllowed side (address_width c) f.addresses f.parameters
  pub name_only : f.full ≡ false → as_text c ≡ false

-- ---- the first rule that is broken

-- k is n where the rule P is broken, and else what the rules after it say (RULES T2)
abbrev pub Rule : ℕ → Type 0 → (ℕ → Type 0) → ℕ → Type 0
Rule n P later k = ((P → ⊥) × (k ≡ n)) ⊎ (P × later k)

-- there is no further rule: 0, since every rule is kept
abbrev pub Unbroken : ℕ → Type 0
Unbroken k = k ≡ 0

-- of a field of parameters (RULES T3); octets split into parameters in at most one way, so 'for every kvs' speaks of that one (`field-once`)
abbrev pub ParametersBroken : List ℕ → ℕ → Type 0
ParametersBroken parameters =
    Rule fault.parameters ((kvs : List Param) × Ordered parameters kvs)
    (Rule fault.hint ((kvs : List Param) → Ordered parameters kvs → Hinted kvs → ⊥)
    (Rule fault.value ((kvs : List Param) → Ordered parameters kvs → All (value.Allowed (keys kvs)) kvs)
    Unbroken))

-- of a record in full form, with addresses of w octets (RULES T2)
abbrev pub TailBroken : Side → ℕ → List ℕ → List ℕ → ℕ → Type 0
TailBroken side w addresses parameters =
    Rule fault.addresses (Whole w addresses)
    (Rule fault.limit (Few w addresses parameters)
    (Rule fault.dropped (Usable side w addresses)
    (ParametersBroken parameters)))

-- name only skips 24 to 28, and in carriers 1 to 3 also 23 (RULES T4)
abbrev pub FormBroken : Bool → Side → Carrier → Fields → ℕ → Type 0
FormBroken true side c f = TailBroken side (address_width c) f.addresses f.parameters
FormBroken false side c f = Rule fault.addresses (as_text c ≡ false) Unbroken

-- k is the number of the first rule that is broken, and 0 where every rule is kept (RULES T2)
abbrev pub FirstBroken : Side → Carrier → Fields → ℕ → Type 0
FirstBroken side c f =
    Rule fault.priority (f.priority ≡ 0 → ⊥)
    (Rule fault.name (NameAllowed side c f.name)
    (FormBroken f.full side c f))

-- ---- where a name is wrong

-- p is the place of fault k, where the name stands from `at` on: of 22 that of the name's first bad octet (RULES N5), and 0 of any other
-- fault (RULES W11, T8)
pub data PlaceOf (Acceptable : List ℕ → Type 0) (name : List ℕ) (at : ℕ) : (k p : ℕ) → Type 0 where
  in_name : {i : ℕ} → FirstBad Acceptable name i → PlaceOf Acceptable name at fault.name (at + i)
  nowhere : {k : ℕ} → (k ≡ fault.name → ⊥) → PlaceOf Acceptable name at k 0
