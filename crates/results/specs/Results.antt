-- What a reading is printed as (docs/COMMAND.md, `read`): its sheet, what was found, what was discarded, and the first fault with its place. Assumes
-- nothing: these are definitions.
use Rattle.std.specs.Prelude.{Bool, true, false, cond, List, [], ◌++◌, ℕ, eqb}
use Rattle.numbers.specs.Fault as fault
use Rattle.chars.specs.Ascii.{ascii}
use Rattle.lines.specs.Messages.{count_of}
use Rattle.showing.specs.Showing.{shown_of}

-- the place of fault 22 in its block, and of no other fault (RULES W11)
abbrev pub place_part : ℕ → ℕ → List ℕ
place_part k p = cond (eqb k fault.name) (count_of (ascii " at octet ") p ++ ascii " of its block") []

-- the first fault; 0 is none
abbrev pub first_part : ℕ → ℕ → List ℕ
first_part k p = cond (eqb k 0) [] (count_of (ascii ", fault ") k ++ place_part k p)

-- as text: the sheet, and a line of its own
unfoldable pub text_of : ℕ → ℕ → ℕ → ℕ → List ℕ → List ℕ
text_of found discarded k p sheet =
    shown_of false sheet
    ++ (count_of (ascii "\nfound ") found ++ (count_of (ascii ", discarded ") discarded ++ (first_part k p ++ ascii "\n")))

-- the numbers in JSON
unfoldable pub numbers_of : ℕ → ℕ → ℕ → ℕ → List ℕ
numbers_of found discarded k p =
    count_of (ascii "{\"found\":") found
    ++ (count_of (ascii ",\"discarded\":") discarded ++ (count_of (ascii ",\"fault\":") k ++ count_of (ascii ",\"place\":") p))

-- in JSON: the numbers and the sheet in one line
unfoldable pub json_of : ℕ → ℕ → ℕ → ℕ → List ℕ → List ℕ
json_of found discarded k p sheet = numbers_of found discarded k p ++ (ascii ",\"sheet\":" ++ (shown_of true sheet ++ ascii "}\n"))

-- in JSON, where the sheet is saved: the numbers, and how many octets it has
unfoldable pub saved_of : ℕ → ℕ → ℕ → ℕ → ℕ → List ℕ
saved_of found discarded k p length = numbers_of found discarded k p ++ (count_of (ascii ",\"saved\":") length ++ ascii "}\n")

abbrev pub result_of : Bool → ℕ → ℕ → ℕ → ℕ → List ℕ → List ℕ
result_of json found discarded k p sheet = cond json (json_of found discarded k p sheet) (text_of found discarded k p sheet)
