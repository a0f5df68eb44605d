-- An answer about a name by the numbers given back: 0, or fault 22 (RULES R22) with the place of the first bad octet (RULES N5); and what it
-- claims. Assumes nothing: these are definitions.
use Rattle.std.specs.Prelude.{◌≡◌, ◌⊎◌, List, ℕ, Ok, Err}
use Rattle.numbers.specs.Fault as fault
use Rattle.names.specs.Automaton.{Checked}
use Rattle.names.specs.Names.{FirstBad}

-- the number of the answer
abbrev pub name_number : Checked → ℕ
name_number (Ok tt) = 0
name_number (Err p) = fault.name

-- its value: the place of the first bad octet, and 0 where there is none
abbrev pub place_in : Checked → ℕ
place_in (Ok tt) = 0
place_in (Err p) = p

-- what an answer claims of a slice: 0, and it is acceptable; or 22, and at this place nothing acceptable can continue
abbrev pub Claims : (List ℕ → Type 0) → List ℕ → Checked → Type 0
Claims Acceptable s r = ((name_number r ≡ 0) × Acceptable s) ⊎ ((name_number r ≡ fault.name) × FirstBad Acceptable s (place_in r))
