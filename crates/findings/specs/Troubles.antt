-- Where in a body its fault stands, and what is known of it beside its number (RULES R20 to R29). Places are counted from 0, in the body. Assumes nothing:
-- these are definitions.
use Rattle.std.specs.Prelude.{cond, ◌&&◌, List, [], ◌∷◌, ℕ, zero, suc, ◌+◌, ◌-◌, ◌*◌, ltb, leb, eqb, length, take, drop, Option, Some, None, unwrap_or, Result, Ok, Err}
use Rattle.octets.specs.Numbers.{at16}
use Rattle.numbers.specs.Fault as fault
use Rattle.numbers.specs.Limit as limit
use Rattle.carriers.specs.declared.Carrier.{Carrier}
use Rattle.carriers.specs.declared.Carrier.TheVariants.{Dhcp4}
use Rattle.carriers.specs.Carriers.{length_width, lifetime_width, address_width, as_text}
use Rattle.blocks.specs.Block.{Fields, name_at}
use Rattle.blocks.specs.Parse.{parse}
use Rattle.judge.specs.declared.Side.TheVariants.{Reading}
use Rattle.judge.specs.Place.{Judged}
use Rattle.judge.specs.Judge.{judged_of}
use Rattle.records.specs.Yielded.{on_parsed}
use Rattle.reasons.specs.declared.Reason.{Reason}
use Rattle.reasons.specs.Reason as reason
use Rattle.reasons.specs.Names.{name_reason}
use Rattle.reasons.specs.Params.{none, param_for}
use Rattle.findings.specs.declared.finding.Finding.{Finding}

-- the number of a fault, or 0 for none; its place; the number of a reason, or 0; and the key of a parameter, or `none`
pub record Trouble : Type 0 where
  pub fault : ℕ
  pub at : ℕ
  pub reason : ℕ
  pub key : ℕ

abbrev pub trouble : ℕ → ℕ → ℕ → ℕ → Trouble
trouble k at reason key = record { fault = k; at = at; reason = reason; key = key }

-- a fault of which its place alone is known
abbrev pub plain : ℕ → ℕ → Trouble
plain k at = trouble k at 0 none

-- no fault
abbrev pub fine : Trouble
fine = plain 0 0

-- the number of a reason, or 0 for none
abbrev pub reason_in : Option Reason → ℕ
reason_in None = 0
reason_in (Some r) = reason.number_of r

-- a finding as a trouble, and an answer; a finding's key, if it has one, is below `none`
abbrev pub troubled : Finding → Trouble
troubled f = trouble (fault.number_of f.fault) f.at (reason_in f.reason) (unwrap_or f.key none)

abbrev pub trouble_in : {T : Type 0} → Result T Finding → Trouble
trouble_in (Ok _) = fine
trouble_in (Err f) = troubled f

-- the same, its place counted from n octets further back
abbrev pub further : ℕ → Trouble → Trouble
further n t = trouble t.fault (n + t.at) t.reason t.key

-- ---- 20 and 29

-- the 16-bit number at a place, and 0 where its octets are not all there
unfoldable pub near16 : List ℕ → ℕ → ℕ
near16 b at = cond (leb (at + 2) (length b)) (at16 b at) 0

-- carrier 3: where the padding begins, after the name or after the parameters (RULES B1, B5 to B7)
abbrev pub name_end : List ℕ → ℕ
name_end b = 8 + near16 b 6

abbrev pub addresses_end : List ℕ → ℕ
addresses_end b = name_end b + 2 + near16 b (name_end b)

unfoldable pub padding_at : List ℕ → ℕ
padding_at b =
    cond (ltb (length b) (name_end b + 8)) (name_end b)
    (addresses_end b + 2 + near16 b (addresses_end b))

-- the first octet that padding cannot have: one that is not 0, or the eighth (RULES B7)
unfoldable pub past_padding : ℕ → List ℕ → ℕ
past_padding at [] = at
past_padding at (x ∷ xs) = cond (eqb x 0 && ltb at 7) (past_padding (at + 1) xs) at

-- 20: the end of the body, where an octet is missing; 29: the first octet that is no padding
unfoldable pub laid_place : ℕ → List ℕ → ℕ
laid_place k b = cond (eqb k fault.padding) (padding_at b + past_padding 0 (drop (padding_at b) b)) (length b)

-- ---- 21 to 28

-- where the address length stands, after a name of n octets; in carriers 4 and 5 the number of addresses, after the priority (RULES B1)
unfoldable pub address_length_at : Carrier → ℕ → ℕ
address_length_at c n = cond (as_text c) 2 (name_at c 0 + n)

-- where the addresses begin (RULES B1), of a name of n octets
unfoldable pub addresses_at : Carrier → ℕ → ℕ
addresses_at c n = cond (as_text c) 4 (address_length_at c n + length_width c)

-- where the parameters begin, after m octets of addresses; carrier 3, which alone has a lifetime, has a length before them
unfoldable pub parameters_at : Carrier → ℕ → ℕ → ℕ
parameters_at c n m = cond (as_text c) (4 + m + n) (addresses_at c n + m + cond (eqb (lifetime_width c) 0) 0 2)

-- 24: the first address too many, else the first octet of parameters too many (RULES L3, L4)
unfoldable pub limit_at : Carrier → ℕ → ℕ → ℕ
limit_at c n m =
    cond (ltb (limit.addresses * address_width c) m) (addresses_at c n + limit.addresses * address_width c) (parameters_at c n m + limit.parameters)

-- by the fault k: 21 the priority; 22 the first bad octet of the name (RULES N5), at `place` in it; 23 the address length; 24 what is too much; 25 the
-- addresses; 26 to 28 the parameter at fault, at `within` in its field
unfoldable pub field_place : Carrier → ℕ → ℕ → ℕ → ℕ → ℕ → ℕ
field_place c k n m place within =
    cond (leb k fault.priority) 0
    (cond (eqb k fault.name) (name_at c m + place)
    (cond (eqb k fault.addresses) (address_length_at c n)
    (cond (eqb k fault.limit) (limit_at c n m)
    (cond (eqb k fault.dropped) (addresses_at c n)
    (parameters_at c n m + within)))))

-- why the name is bad, of fault 22
abbrev pub reason_of : Carrier → ℕ → List ℕ → ℕ → ℕ
reason_of c k name place = cond (eqb k fault.name) (name_reason (as_text c) name place) 0

-- of fields that are judged so
unfoldable pub judged_trouble : Carrier → Fields → Judged → Trouble
judged_trouble c f j =
    trouble j.fault
    (field_place c j.fault (length f.name) (length f.addresses) j.place (param_for j.fault f.parameters).at)
    (reason_of c j.fault f.name j.place)
    (param_for j.fault f.parameters).key

abbrev pub fields_trouble : Carrier → Fields → Trouble
fields_trouble c f = judged_trouble c f (judged_of Reading c f.priority f.name f.full f.addresses f.parameters)

-- of a body
unfoldable pub trouble_of : Carrier → List ℕ → Trouble
trouble_of c b = on_parsed (parse c b) (λ k. plain k (laid_place k b)) (fields_trouble c)

-- ---- carrier 1: the first instance with a fault, in the joined data (RULES B4, T2)

-- further on by so many octets; where there is no fault, what follows
unfoldable pub or_else : ℕ → Trouble → Trouble → Trouble
or_else n t next = cond (eqb t.fault 0) next (trouble t.fault (n + t.at) t.reason t.key)

-- `l` begins with an instance at a place; `go k` is what follows the first octet of `l` and k more
abbrev pub instance_trouble : ℕ → List ℕ → (ℕ → Trouble) → Trouble
instance_trouble at l go =
    cond (ltb (length l) 2) (plain fault.field (at + length l))
    (cond (ltb (length l - 2) (at16 l 0)) (plain fault.field (at + length l))
    (or_else (at + 2) (trouble_of Dhcp4 (take (at16 l 0) (drop 2 l))) (go (1 + at16 l 0))))

unfoldable pub instances_trouble : ℕ → ℕ → List ℕ → Trouble
instances_trouble k at [] = fine
instances_trouble zero at (x ∷ xs) = instance_trouble at (x ∷ xs) (λ k. instances_trouble k (at + 1) xs)
instances_trouble (suc k) at (x ∷ xs) = instances_trouble k (at + 1) xs

unfoldable pub joined_trouble : List ℕ → Trouble
joined_trouble b = cond (eqb (length b) 0) (plain fault.field 0) (instances_trouble 0 0 b)
