-- Why a block is discarded, or a sheet's record not written (RULES R20 to R29): the same names as in src/.
-- Assumes nothing: these are definitions.
use Rattle.std.specs.Prelude.{ℕ, Result, Ok, Err}
use Rattle.numbers.specs.declared.Fault.{Fault}
use Rattle.numbers.specs.declared.Fault.TheVariants.{Field, Priority, Name, Addresses, Limit, Dropped, Parameters, Hint, Value, Padding}

-- a field runs past its body's end, an instance past the joined data, or no instance (RULES R20)
abbrev pub field : ℕ
field = 20

-- priority 0, AliasMode (RULES R21; RFC 9460 §2.4.2)
abbrev pub priority : ℕ
priority = 21

-- the name is not acceptable (RULES R22)
abbrev pub name : ℕ
name = 22

-- address length 0 or no multiple, no addresses, name only in carriers 4 and 5 (RULES R23)
abbrev pub addresses : ℕ
addresses = 23

-- more than 63 addresses as carried, or over 1,024 octets of parameters (RULES R24, L3, L4)
abbrev pub limit : ℕ
limit = 24

-- reading: no address is left; writing: one is to be dropped (RULES R25)
abbrev pub dropped : ℕ
dropped = 25

-- parameters: tiling, order, key 65535 (RULES R26)
abbrev pub parameters : ℕ
parameters = 26

-- key 4 or 6 (RULES R27)
abbrev pub hint : ℕ
hint = 27

-- key 0, 1, 2 or 3 is not as RULES P4 to P7 say (RULES R28)
abbrev pub value : ℕ
value = 28

-- carrier 3: padding not 0 to 7 zeros (RULES R29)
abbrev pub padding : ℕ
padding = 29

-- the number of a fault of src/
abbrev pub number_of : Fault → ℕ
number_of Field = field
number_of Priority = priority
number_of Name = name
number_of Addresses = addresses
number_of Limit = limit
number_of Dropped = dropped
number_of Parameters = parameters
number_of Hint = hint
number_of Value = value
number_of Padding = padding

-- the number of an answer: 0, or that of the fault
abbrev pub number_in : {T : Type 0} → Result T Fault → ℕ
number_in (Ok _) = 0
number_in (Err f) = number_of f
