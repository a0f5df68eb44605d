-- What text and JSON have in common: octets of values, lists, keys, names and addresses, each as it is shown (docs/COMMAND.md, "Text of a
-- sheet", "JSON"); `json` says which of the two. In JSON a quotation mark and a backslash within a string stand after a backslash
-- (RFC 8259 §7). Assumes nothing: these are definitions.
use Rattle.std.specs.Prelude.{ℕ, zero, suc, ◌+◌, ◌-◌, ◌/◌, ◌%◌, min, Bool, true, cond, List, [], ◌∷◌, ◌++◌, map, leb, ltb, eqb, length, take}
use Rattle.octets.specs.Lists.{flat}
use Rattle.carriers.specs.declared.Carrier.{Carrier}
use Rattle.carriers.specs.declared.Carrier.TheVariants.{Dhcp4, Dhcp6, Router, Ike4, Ike6}
use Rattle.octets.specs.Numbers.{words}
use Rattle.svcparams.specs.Key as key
use Rattle.texts.specs.Texts.{text_of}
use Rattle.ips.specs.Ips.{joined, text4, text6}
use Rattle.chars.specs.Ascii.{ascii, decimal_of}

-- ---- carriers, names, lifetimes and addresses

unfoldable pub carrier_of : Carrier → List ℕ
carrier_of Dhcp4 = ascii "DHCPv4"
carrier_of Dhcp6 = ascii "DHCPv6"
carrier_of Router = ascii "router advertisement"
carrier_of Ike4 = ascii "IKEv2 ENCDNS_IP4"
carrier_of Ike6 = ascii "IKEv2 ENCDNS_IP6"

-- octets of a name in wire form at most (RFC 1035 §3.1)
abbrev pub longest_name : ℕ
longest_name = 255

-- a name in wire form, as text without a final dot; of fewer than two octets, which are no name, nothing
unfoldable pub name_of : List ℕ → List ℕ
name_of wire = cond (ltb (length wire) 2) [] (text_of wire)

-- the lifetime that never ends: all ones (RFC 9463 §6.1)
abbrev pub forever : ℕ
forever = 4294967295

-- a lifetime: in JSON the number, in text for a person; 0 withdraws the resolver (RFC 9463 §6.1)
unfoldable pub span_of : Bool → ℕ → List ℕ
span_of json lifetime =
    cond json (decimal_of lifetime)
    (cond (eqb lifetime forever) (ascii "never expires")
    (cond (eqb lifetime 0) (ascii "0 s, no longer to be used") (decimal_of lifetime ++ ascii " s")))

-- an address by its length (RFC 5952 §4, §5)
unfoldable pub address_of : List ℕ → List ℕ
address_of a = cond (eqb (length a) 4) (text4 a) (cond (eqb (length a) 16) (text6 a) [])

-- ---- lists

-- the code of a comma
abbrev pub comma : ℕ
comma = 44

-- items with commas between them, or else one after another
abbrev pub list_of : Bool → List (List ℕ) → List ℕ
list_of commas items = cond commas (joined comma items) (flat items)

-- what stands before an item of such a list
abbrev pub before_of : Bool → Bool → List ℕ
before_of commas first = cond first [] (cond commas (comma ∷ []) [])

-- in JSON a string
unfoldable pub quoted : Bool → List ℕ → List ℕ
quoted json s = cond json (ascii "\"") [] ++ (s ++ cond json (ascii "\"") [])

-- in JSON a list
abbrev pub bracketed : Bool → List ℕ → List ℕ
bracketed json s = cond json (ascii "[") [] ++ (s ++ cond json (ascii "]") [])

-- ---- keys

-- the template of DNS over HTTPS (RFC 9461 §5)
abbrev pub dohpath : ℕ
dohpath = 7

-- a key by its name, or as keyN (RFC 9460 §2.1, §14.3.2)
unfoldable pub key_of : ℕ → List ℕ
key_of k =
    cond (eqb k key.mandatory) (ascii "mandatory")
    (cond (eqb k key.alpn) (ascii "alpn")
    (cond (eqb k key.no_default_alpn) (ascii "no-default-alpn")
    (cond (eqb k key.port) (ascii "port")
    (cond (eqb k dohpath) (ascii "dohpath")
    (ascii "key" ++ decimal_of k)))))

-- characters of a label with the blanks after it
abbrev pub columns : ℕ
columns = 16

-- what fills up the label of a key to its columns, with one blank at least; nothing where the value has no octets
unfoldable pub gap_of : ℕ → ℕ → List ℕ
gap_of k size = cond (eqb size 0) [] (take (columns - min (length (key_of k)) (columns - 1)) (ascii "                "))

-- what stands before the value of a parameter: its key by number and by name, or, in text, the beginning of a line, filled up to
-- its column
unfoldable pub label_of : Bool → ℕ → ℕ → List ℕ
label_of json k size =
    cond json
    (ascii "{\"key\":" ++ (decimal_of k ++ (ascii ",\"name\":\"" ++ (key_of k ++ ascii "\",\"value\":"))))
    (ascii "\n    " ++ (key_of k ++ gap_of k size))

-- the keys of a mandatory list
unfoldable pub keys_of : Bool → List ℕ → List ℕ
keys_of json v = list_of true (map (λ (k : ℕ). quoted json (key_of k)) (words v))

-- ---- octets of a value

-- the codes of a backslash and of a quotation mark
abbrev pub backslash : ℕ
backslash = 92

abbrev pub quotation : ℕ
quotation = 34

-- a backslash, in JSON after another
abbrev pub slash_of : Bool → List ℕ
slash_of json = cond json (ascii "\\\\") (ascii "\\")

-- an octet as a backslash and three decimal digits
abbrev pub code_of : Bool → ℕ → List ℕ
code_of json b = slash_of json ++ ((48 + b / 100) ∷ (48 + b / 10 % 10) ∷ (48 + b % 10) ∷ [])

-- an octet of a value: 33 to 126 as they are, but a backslash, a quotation mark and a comma after a backslash, and every other octet by its
-- code (in the manner of RFC 9460 appendix A)
unfoldable pub escaped_of : Bool → ℕ → List ℕ
escaped_of json b =
    cond (leb b 32) (code_of json b)
    (cond (ltb 126 b) (code_of json b)
    (cond (eqb b backslash) (slash_of json ++ slash_of json)
    (cond (eqb b quotation) (slash_of json ++ cond json (ascii "\\\"") (ascii "\""))
    (cond (eqb b comma) (slash_of json ++ ascii ",")
    (b ∷ [])))))

-- the octets of a value
unfoldable pub value_of : Bool → List ℕ → List ℕ
value_of json v = flat (map (escaped_of json) v)

-- ---- protocols

-- `s` follows a length octet of n: the string, and the strings after it, where it stands whole; `go k` reads what stands k octets farther
abbrev pub after_length : ℕ → List ℕ → (ℕ → List (List ℕ)) → List (List ℕ)
after_length n s go = cond (ltb (length s) n) [] (take n s ∷ go n)

-- the strings that a value begins with, each after its 8-bit length (RFC 9460 §7.1.1), with its first k octets still to be skipped
unfoldable pub strings_from : ℕ → List ℕ → List (List ℕ)
strings_from k [] = []
strings_from zero (n ∷ s) = after_length n s (λ k. strings_from k s)
strings_from (suc k) (x ∷ s) = strings_from k s

-- the protocols of an alpn list
unfoldable pub protocols_of : Bool → List ℕ → List ℕ
protocols_of json v = list_of true (map (λ (id : List ℕ). quoted json (value_of json id)) (strings_from 0 v))
