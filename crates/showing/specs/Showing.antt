-- What is shown of a sheet: lines for a person, each but the first after a line break, or one JSON object without blanks (RFC 8259;
-- docs/COMMAND.md, "Text of a sheet", "JSON"); `json` says which of the two. Assumes nothing: these are definitions.
use Rattle.std.specs.Prelude.{ℕ, Bool, cond, ◌&&◌, List, [], ◌++◌, map, eqb, length}
use Rattle.octets.specs.Numbers.{at16}
use Rattle.carriers.specs.declared.Carrier.{Carrier}
use Rattle.carriers.specs.Carriers.{number_of, address_width, lifetime_width}
use Rattle.addresses.specs.Addresses as addresses
use Rattle.svcparams.specs.Param.{Param}
use Rattle.svcparams.specs.Entries.{entries}
use Rattle.svcparams.specs.Key as key
use Rattle.blocks.specs.Block.{Fields}
use Rattle.taking.specs.Taking.{Taken, refuse, sheet, take_of}
use Rattle.chars.specs.Ascii.{ascii, decimal_of}
use Rattle.values.specs.Values.{carrier_of, name_of, span_of, address_of, list_of, quoted, bracketed, label_of, keys_of, value_of, protocols_of}

-- the end of the first line: how many records there are
unfoldable pub count_of : ℕ → List ℕ
count_of count = ascii "), " ++ (decimal_of count ++ cond (eqb count 1) (ascii " record") (ascii " records"))

-- the first line
unfoldable pub line_of : Carrier → ℕ → List ℕ
line_of c count = carrier_of c ++ (ascii " (carrier " ++ (decimal_of (number_of c) ++ count_of count))

-- the object up to the records
unfoldable pub object_of : Carrier → List ℕ
object_of c =
    ascii "{\"carrier\":" ++ (decimal_of (number_of c) ++ (ascii ",\"carrierName\":\"" ++ (carrier_of c ++ ascii "\",\"records\":[")))

-- what stands before the records
abbrev pub head_of : Bool → Carrier → ℕ → List ℕ
head_of json c count = cond json (object_of c) (line_of c count)

-- ---- records

-- the lifetime, where the carrier has one
unfoldable pub lifetime_of : Bool → Carrier → ℕ → List ℕ
lifetime_of json c lifetime =
    cond (eqb (lifetime_width c) 0) []
    (cond json (ascii ",\"lifetime\":") (ascii "\n    lifetime        ") ++ span_of json lifetime)

-- what every record has; in text an empty line stands before it
unfoldable pub common_of : Bool → Carrier → ℕ → ℕ → List ℕ → List ℕ
common_of json c priority lifetime name =
    cond json (ascii "{\"name\":\"") (ascii "\n\n")
    ++ (name_of name
    ++ (cond json (ascii "\",\"priority\":") (ascii "\n    priority        ") ++ (decimal_of priority ++ lifetime_of json c lifetime)))

-- an address
abbrev pub address_item : Bool → List ℕ → List ℕ
address_item json a = cond json (ascii "\"") (ascii "\n    address         ") ++ (address_of a ++ cond json (ascii "\"") [])

-- the addresses of a carrier
unfoldable pub addresses_of : Bool → Carrier → List ℕ → List ℕ
addresses_of json c s = list_of json (map (address_item json) (addresses.list_of (address_width c) s))

-- ---- parameters

-- the value of a parameter; that of no-default-alpn is empty in a sheet that writing accepts
unfoldable pub value_by : Bool → ℕ → List ℕ → List ℕ
value_by json k v =
    cond (eqb k key.mandatory) (bracketed json (keys_of json v))
    (cond (eqb k key.alpn) (bracketed json (protocols_of json v))
    (cond (eqb k key.no_default_alpn && json) (ascii "null")
    (cond (eqb k key.port && eqb (length v) 2) (decimal_of (at16 v 0))
    (quoted json (value_of json v)))))

-- a parameter
unfoldable pub parameter_of : Bool → Param → List ℕ
parameter_of json kv =
    label_of json kv.key (length kv.value) ++ (value_by json kv.key kv.value ++ cond json (ascii "}") [])

unfoldable pub parameters_of : Bool → List ℕ → List ℕ
parameters_of json p = list_of json (map (parameter_of json) (entries p))

-- ---- the sheet

-- what mode 1 adds
unfoldable pub lists_of : Bool → Carrier → List ℕ → List ℕ → List ℕ
lists_of json c s p =
    cond json (ascii ",\"nameOnly\":false,\"addresses\":[") []
    ++ (addresses_of json c s ++ (cond json (ascii "],\"parameters\":[") [] ++ (parameters_of json p ++ cond json (ascii "]}") [])))

-- what a record has by its mode
unfoldable pub rest_of : Bool → Carrier → Fields → List ℕ
rest_of json c r =
    cond r.full (lists_of json c r.addresses r.parameters) (cond json (ascii ",\"nameOnly\":true}") (ascii "\n    name only"))

-- a record
unfoldable pub record_of : Bool → Carrier → Fields → List ℕ
record_of json c r = common_of json c r.priority r.lifetime r.name ++ rest_of json c r

-- a sheet of a carrier and its records
unfoldable pub sheet_of : Bool → Carrier → List Fields → List ℕ
sheet_of json c rs = head_of json c (length rs) ++ (list_of json (map (record_of json c) rs) ++ cond json (ascii "]}") [])

-- of octets that are no sheet nothing. A sheet is what taking answers (2, 40 to 43 and 4 tested); of one that writing refuses for another
-- number the text means nothing
abbrev pub shown_as : Bool → Taken → List ℕ
shown_as json (refuse k) = []
shown_as json (sheet c rs) = sheet_of json c rs

-- what is shown of the octets s
abbrev pub shown_of : Bool → List ℕ → List ℕ
shown_of json s = shown_as json (take_of s)
