-- The first fault of a record's fields, 21 to 28 in that order (RULES T2); a name only skips 24 to 28, and in carriers 1 to 3 also 23
-- (RULES T4). Of 22 also the place of the name's first bad octet (RULES N5). Assumes nothing: these are definitions.
use Rattle.std.specs.Prelude.{Bool, cond, not, List, ℕ, ◌/◌, ◌%◌, ltb, eqb, length, Ok, Err}
use Rattle.numbers.specs.Fault as fault
use Rattle.numbers.specs.Limit as limit
use Rattle.carriers.specs.declared.Carrier.{Carrier}
use Rattle.carriers.specs.Carriers.{address_width, as_text}
use Rattle.names.specs.Automaton.{Checked}
use Rattle.names.specs.Wire.{name_check}
use Rattle.texts.specs.TextCheck.{text_check}
use Rattle.addresses.specs.Addresses.{list_of, any_of, none_of}
use Rattle.svcparams.specs.Params.{params_fault}
use Rattle.blocks.specs.Block.{Fields}
use Rattle.judge.specs.declared.Side.{Side}
use Rattle.judge.specs.declared.Side.TheVariants.{Reading, Writing}
use Rattle.judge.specs.Place.{Judged, judged}

-- 22: the name, as the side has it: a sheet holds the wire form in every carrier
abbrev pub name_of : Side → Carrier → List ℕ → Checked
name_of Writing c name = name_check name
name_of Reading c name = cond (as_text c) (text_check name) (name_check name)

-- 25: reading asks whether no address is left, writing whether one is to be dropped
abbrev pub refused_of : Side → ℕ → List (List ℕ) → Bool
refused_of Reading w addresses = none_of w addresses
refused_of Writing w addresses = any_of w addresses

-- 23 to 28 of a record in full form, with addresses of w octets; 24 counts the addresses as carried
unfoldable pub tail_fault : Side → ℕ → List ℕ → List ℕ → ℕ
tail_fault side w addresses parameters =
    cond (eqb (length addresses) 0) fault.addresses
    (cond (not (eqb (length addresses % w) 0)) fault.addresses
    (cond (ltb limit.addresses (length addresses / w)) fault.limit
    (cond (ltb limit.parameters (length parameters)) fault.limit
    (cond (refused_of side w (list_of w addresses)) fault.dropped
    (params_fault parameters)))))

-- 23 of a record with a name only: there is no such form in carriers 4 and 5
abbrev pub name_only_fault : Carrier → ℕ
name_only_fault c = cond (as_text c) fault.addresses 0

abbrev pub on_name : {A : Type 0} → Checked → (ℕ → A) → A → A
on_name (Ok tt) bad good = good
on_name (Err place) bad good = bad place

-- 21, 22 with its place in the name, and what follows by the form
unfoldable pub judged_of : Side → Carrier → ℕ → List ℕ → Bool → List ℕ → List ℕ → Judged
judged_of side c priority name full addresses parameters =
    cond (eqb priority 0) (judged fault.priority 0)
    (on_name (name_of side c name) (λ place. judged fault.name place)
    (judged (cond full (tail_fault side (address_width c) addresses parameters) (name_only_fault c)) 0))

-- the same of fields
abbrev pub judged_by : Side → Carrier → Fields → Judged
judged_by side c f = judged_of side c f.priority f.name f.full f.addresses f.parameters

-- the fault of fields, or 0
abbrev pub fault_of : Side → Carrier → Fields → ℕ
fault_of side c f = (judged_by side c f).fault
