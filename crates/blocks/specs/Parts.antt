-- What the parts of a record say, as they lie in a body or a sheet, and how `split` reads them. Assumes nothing: these are definitions.
use Rattle.std.specs.Prelude.{◌≡◌, true, false, List, [], ℕ, ◌+◌, ◌%◌, ◌≤◌, ◌<◌, length, Result, Ok, Err}
use Rattle.octets.specs.Fields.{part, counted}
use Rattle.numbers.specs.Fault as fault
use Rattle.numbers.specs.declared.Fault.{Fault}
use Rattle.carriers.specs.declared.Carrier.{Carrier}
use Rattle.carriers.specs.Carriers.{lifetime_width, address_width, as_text}
use Rattle.blocks.specs.declared.Parts.{Parts}
use Rattle.blocks.specs.Block.{Fields, fields_of, name_at}
use Rattle.blocks.specs.Parse.{Parsed, bad, fields, short}

-- the fields that the parts say
abbrev pub fields_in : Parts → Fields
fields_in p = fields_of p.head p.name.now p.addresses.now p.parameters.now

-- what `split` answers, as `parse` has it
abbrev pub parsed_in : Result Parts Fault → Parsed
parsed_in (Ok p) = fields (fields_in p)
parsed_in (Err k) = bad (fault.number_of k)

-- priority and lifetime have room in their fields, and only carrier 3 has a lifetime; the name-only form has neither addresses nor parameters and
-- is not in carriers 4 and 5, where addresses are whole; where `name_at` says there is room for the name in the body, and in the body for the parts
pub record InRange (c : Carrier) (b : List ℕ) (f : Fields) : Type 0 where
  pub priority : f.priority < 65536
  pub lifetime : f.lifetime < 4294967296
  pub none : lifetime_width c ≡ 0 → f.lifetime ≡ 0
  pub bare : f.full ≡ false → (as_text c ≡ false) × (f.addresses ≡ []) × (f.parameters ≡ [])
  pub whole : as_text c ≡ true → length f.addresses % address_width c ≡ 0
  pub named : name_at c (length f.addresses) + length f.name ≤ length b
  pub together : length f.name + length f.addresses + length f.parameters ≤ length b

abbrev pub Ranged : Carrier → List ℕ → Result Parts Fault → Type 0
Ranged c b (Ok p) = InRange c b (fields_in p)
Ranged c b (Err k) = Unit {0}

-- carriers 1 and 2: no lifetime, and the name is not text
abbrev pub Named : Carrier → Type 0
Named c = (lifetime_width c ≡ 0) × (as_text c ≡ false)

-- ---- steps of `parse`, each of which reads octets from the front and hands them with what follows to the next

abbrev pub Step : Type 0
Step = (List ℕ → List ℕ → Parsed) → Parsed

-- it hands on x and `rest`
abbrev pub Yields : Step → List ℕ → List ℕ → Type 0
Yields step x rest = (next : List ℕ → List ℕ → Parsed) → step next ≡ next x rest

-- the octets run past the end
abbrev pub Stops : Step → Type 0
Stops step = (next : List ℕ → List ℕ → Parsed) → step next ≡ short

-- x is the first n octets of l, and `rest` the others
abbrev pub Takes : ℕ → List ℕ → List ℕ → List ℕ → Type 0
Takes n l x rest = (length x ≡ n) × (length x + length rest ≡ length l) × Yields (part short n l) x rest

-- x is what is counted at the front of l by w octets, and `rest` what follows it
abbrev pub Counts : ℕ → List ℕ → List ℕ → List ℕ → Type 0
Counts w l x rest = (length x + length rest ≤ length l) × Yields (counted short w l) x rest
