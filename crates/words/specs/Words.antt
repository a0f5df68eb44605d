-- The numbers given back, in words (RULES R0 to R44), and why a name is no host name. Assumes nothing: these are definitions.
use Rattle.std.specs.Prelude.{ℕ, cond, List, [], ◌∷◌, eqb}
use Rattle.octets.specs.Lists.{same}
use Rattle.numbers.specs.Refusal as refusal
use Rattle.numbers.specs.Fault as fault
use Rattle.chars.specs.Ascii.{ascii}
use Rattle.reasons.specs.Reason as reason

-- a number and its words
pub record Worded : Type 0 where
  pub number : ℕ
  pub words : List ℕ

abbrev pub worded : ℕ → List ℕ → Worded
worded k ws = record { number = k; words = ws }

-- the table of the numbers given back
unfoldable pub table : List Worded
table =
    worded 0 (ascii "done")
    ∷ worded refusal.carrier (ascii "carrier number not 1 to 5")
    ∷ worded refusal.input (ascii "input longer than 40,960 octets")
    ∷ worded refusal.framing (ascii "the area is not whole options: a header or body runs past the end, or a length of 0 in a router advertisement")
    ∷ worded refusal.records (ascii "more than 16 records")
    ∷ worded refusal.room (ascii "output shorter than the result")
    ∷ worded fault.field (ascii "the block ends too early: a length says more octets than are left, or a field is missing")
    ∷ worded fault.priority (ascii "priority 0 (AliasMode)")
    ∷ worded fault.name (ascii "the name is no host name: labels of 1 to 63 letters, digits and inner hyphens, 255 octets in all")
    ∷ worded fault.addresses (ascii "no addresses, their length is no multiple of 4 (IPv4) or 16 (IPv6), or name only in IKEv2")
    ∷ worded fault.limit (ascii "more than 63 addresses, or over 1,024 octets of parameters")
    ∷ worded fault.dropped (ascii "no usable address, or an unusable one in a sheet")
    ∷ worded fault.parameters (ascii "service parameters are cut short, or their keys do not rise, or one is 65535")
    ∷ worded fault.hint (ascii "address hint among the service parameters (key 4 or 6), where addresses have a field of their own")
    ∷ worded fault.value (ascii "a service parameter is not as its key asks: mandatory (0), alpn (1), no-default-alpn (2, only beside alpn) or port (3)")
    ∷ worded fault.padding (ascii "what follows the last field is not 0 to 7 zeros")
    ∷ worded refusal.sheet (ascii "not a record sheet: shorter than 7 octets, or not beginning with RSV")
    ∷ worded refusal.version (ascii "record sheet version not 1")
    ∷ worded refusal.sheet_carrier (ascii "record sheet carrier not 1 to 5")
    ∷ worded refusal.tiling (ascii "the record sheet is damaged: lengths do not add up, a mode is not 0 or 1, priorities fall, or a lifetime stands where none belongs")
    ∷ worded refusal.large (ascii "router advertisement record above 2,040 octets")
    ∷ []

-- the table of the reasons for which a name is no host name, details of fault 22
unfoldable pub reasons : List Worded
reasons =
    worded reason.cut (ascii "it has no end: the name stops before its last octet 0")
    ∷ worded reason.empty (ascii "it is empty")
    ∷ worded reason.pointer (ascii "a compression pointer")
    ∷ worded reason.label (ascii "a label of more than 63 octets")
    ∷ worded reason.long (ascii "it is longer than a name may be")
    ∷ worded reason.after (ascii "octets follow its end")
    ∷ worded reason.underscore (ascii "an underscore")
    ∷ worded reason.hyphen (ascii "a hyphen at the beginning or end of a label")
    ∷ worded reason.dot (ascii "a dot at the beginning or end, or two side by side")
    ∷ worded reason.octet (ascii "an octet that is no letter, digit or hyphen")
    ∷ []

-- what is said of a number that has no words
abbrev pub unknown : List ℕ
unknown = ascii "unknown number"

-- the words of a number in a table; of any other, that it is unknown
unfoldable pub words_in : List Worded → ℕ → List ℕ
words_in [] k = unknown
words_in (w ∷ ws) k = cond (eqb w.number k) w.words (words_in ws k)

-- the number of the first entry that has these words; of any other words, 0
unfoldable pub number_in : List Worded → List ℕ → ℕ
number_in [] x = 0
number_in (w ∷ ws) x = cond (same w.words x) w.number (number_in ws x)

abbrev pub words_of : ℕ → List ℕ
words_of k = words_in table k
