-- What the command says, as JSON (docs/COMMAND.md, "JSON"): one object a line, of a message and of octets printed or saved. Assumes nothing: these are
-- definitions.
use Rattle.std.specs.Prelude.{cond, List, [], ◌∷◌, ◌++◌, map, ℕ, ◌-◌, ◌≤◌, ltb, eqb, length, take, drop}
use Rattle.octets.specs.Lists.{flat}
use Rattle.chars.specs.Ascii.{ascii}
use Rattle.hexes.specs.Hexes.{two, hex_of}
use Rattle.lines.specs.declared.objects.Note.{Note}
use Rattle.lines.specs.Messages.{count_of}

-- ---- a string (RFC 8259 §7)

-- an octet by its number
abbrev pub unit_of : ℕ → List ℕ
unit_of x = ascii "\\u00" ++ two x

-- an octet: a quotation mark (34) and a backslash (92) after a backslash, 32 to 126 as they are, every other by its number
unfoldable pub letter_of : ℕ → List ℕ
letter_of x =
    cond (ltb x 32) (unit_of x)
    (cond (ltb 126 x) (unit_of x)
    (cond (eqb x 34) (ascii "\\\"")
    (cond (eqb x 92) (ascii "\\\\")
    (x ∷ []))))

-- between quotation marks
unfoldable pub string_of : List ℕ → List ℕ
string_of s = flat (map letter_of s)

-- no control character, and nothing above 126: every character of a string is such a one (`ObjectsLaws`)
abbrev pub Printable : ℕ → Type 0
Printable x = (32 ≤ x) × (x ≤ 126)

-- ---- a message

-- a member that is a number; 0 is left out
abbrev pub member_of : List ℕ → ℕ → List ℕ
member_of before n = cond (eqb n 0) [] (count_of before n)

-- what goes with a message, and the end of its object
unfoldable pub members_of : Note → List ℕ
members_of note =
    member_of (ascii ",\"status\":") note.status
    ++ (member_of (ascii ",\"number\":") note.number
    ++ (member_of (ascii ",\"errno\":") note.errno
    ++ (member_of (ascii ",\"block\":") note.block
    ++ (member_of (ascii ",\"octet\":") note.octet
    ++ ascii "}\n"))))

-- a line without `dnr: ` and its line break
abbrev pub inner_of : List ℕ → List ℕ
inner_of line = drop 5 (take (length line - 1) line)

unfoldable pub object_of : Note → List ℕ → List ℕ
object_of note line = ascii "{\"message\":\"" ++ (string_of (inner_of line) ++ (ascii "\"" ++ members_of note))

-- ---- octets

-- printed
unfoldable pub octets_of : List ℕ → List ℕ
octets_of s = count_of (ascii "{\"length\":") (length s) ++ (ascii ",\"octets\":\"" ++ (hex_of s ++ ascii "\"}\n"))

-- saved: how many
unfoldable pub saved_of : ℕ → List ℕ
saved_of n = count_of (ascii "{\"saved\":") n ++ ascii "}\n"
