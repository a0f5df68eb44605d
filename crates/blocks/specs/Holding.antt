-- What it is for a body to hold its fields, whatever stands in the place of its padding: so when a body has fault 20 and when 29 (RULES R20, R29),
-- stated as what is true of the octets, not as steps to take. It speaks of lists of numbers; that they are octets is a premise of the laws.
-- Assumes nothing: these are definitions.
use Rattle.std.specs.Prelude.{◌≡◌, Bool, true, false, cond, List, [], ℕ, ◌^◌, ◌≤◌, ◌<◌, length}
use Rattle.octets.specs.Lists.{All}
use Rattle.octets.specs.Fields.{put_counted}
use Rattle.carriers.specs.declared.Carrier.{Carrier}
use Rattle.carriers.specs.declared.Carrier.TheVariants.{Router}
use Rattle.carriers.specs.declared.Form.{Form}
use Rattle.carriers.specs.declared.Form.TheVariants.{Wire, Padded, Text}
use Rattle.carriers.specs.Carriers.{form_of, length_width, lifetime_width}
use Rattle.blocks.specs.Block.{Fields, put_opening, layout, Tail, Fits}

-- a body is the layout of fields that have room in it (RULES B1)
abbrev pub Laid : Carrier → List ℕ → Fields → Type 0
Laid c body f = (body ≡ layout c f) × Fits c f

-- 0 to 7 zeros (RULES B7)
abbrev pub Padding : List ℕ → Type 0
Padding rest = (length rest < 8) × All (λ x. x ≡ 0) rest

-- ---- carrier 3

-- what follows the name, with `rest` where the padding belongs (RULES B1)
abbrev pub put_tail : Fields → List ℕ → List ℕ
put_tail f rest = cond f.full (put_counted (length_width Router) f.addresses (put_counted (length_width Router) f.parameters rest)) rest

-- which form it is, by the octets that follow the name (RULES B5, B6)
abbrev pub FormBy : Bool → ℕ → Type 0
FormBy true n = 8 ≤ n
FormBy false n = n < 8

-- the body is these fields and then `rest`, the numbers have room, and the form is the one that the octets after the name tell (RULES B1, B5, B6)
pub record HoldsPadded (body : List ℕ) (f : Fields) (rest : List ℕ) : Type 0 where
  pub laid : body ≡ put_opening Router f (put_tail f rest)
  pub form : FormBy f.full (length (put_tail f rest))
  pub priority : f.priority < 65536
  pub lifetime : f.lifetime < 256 ^ lifetime_width Router
  pub name : length f.name < 256 ^ length_width Router
  pub tail : Tail f.full ((length f.addresses < 256 ^ length_width Router) × (length f.parameters < 256 ^ length_width Router)) f

-- ---- every carrier

-- the body holds these fields, and then `rest`: in carrier 3 what stands in the place of the padding, else nothing (RULES B1, B7)
abbrev pub HoldsBy : Form → Carrier → List ℕ → Fields → List ℕ → Type 0
HoldsBy Wire c body f rest = Laid c body f × (rest ≡ [])
HoldsBy Padded c body f rest = HoldsPadded body f rest
HoldsBy Text c body f rest = Laid c body f × (rest ≡ [])

abbrev pub Holds : Carrier → List ℕ → Fields → List ℕ → Type 0
Holds c = HoldsBy (form_of c) c

-- fault 20: no fields are held (RULES R20)
abbrev pub Short : Carrier → List ℕ → Type 0
Short c body = (f : Fields) (rest : List ℕ) → Holds c body f rest → ⊥

-- fault 29: fields are held, and what follows them is no padding (RULES R29)
abbrev pub Misfilled : Carrier → List ℕ → Type 0
Misfilled c body = (f : Fields) × (rest : List ℕ) × Holds c body f rest × (Padding rest → ⊥)
