-- How what src/ holds is said in these definitions. No two values of src/ of one kind are said alike: a place has its number, an octet stands only
-- where it is completed, and no character has the value 64. Assumes nothing: these are definitions.
use Rattle.std.specs.Prelude.{◌≡◌, Bool, true, false, ℕ, ◌<◌, Option, Some, None, cond}
use Rattle.base64_text.specs.declared.Place.{Place}
use Rattle.base64_text.specs.declared.Place.TheVariants as places
use Rattle.base64_text.specs.declared.Quantum as held
use Rattle.base64_text.specs.Quantum.{Quantum}
use Rattle.base64_text.specs.Base64.{quantum}

abbrev pub number_of : Place → ℕ
number_of places.Start = 0
number_of places.One = 1
number_of places.Two = 2
number_of places.Three = 3
number_of places.Padded = 4
number_of places.Ended = 5

abbrev pub octet_or0 : Option ℕ → ℕ
octet_or0 (Some o) = o
octet_or0 None = 0

abbrev pub completed : Option ℕ → Bool
completed (Some o) = true
completed None = false

-- an octet that src/ has not is 0 here
abbrev pub quantum_in : held.Quantum → Quantum
quantum_in q = quantum (number_of q.place) q.last (octet_or0 q.octet) (completed q.octet)

-- the octet that the last character completed
abbrev pub octet_in : Quantum → Option ℕ
octet_in s = cond s.complete (Some s.octet) None

-- q stands as s does; an octet that is not completed is none
pub record Stands (q : held.Quantum) (s : Quantum) : Type 0 where
  pub place : number_of q.place ≡ s.place
  pub last : q.last ≡ s.last
  pub octet : q.octet ≡ octet_in s

-- a character moves a quantum to s, or the text is no base64
abbrev pub Moved : Option held.Quantum → Quantum → Type 0
Moved (Some q) s = Stands q s
Moved None s = s.place ≡ 6

-- a character has the value n, which is 64 where it has none
abbrev pub Valued : Option ℕ → ℕ → Type 0
Valued (Some v) n = (v ≡ n) × (n < 64)
Valued None n = n ≡ 64
