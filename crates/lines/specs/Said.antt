-- What the command says of an input (docs/COMMAND.md): that it spells no octets, is refused, that nothing or less than all is found in it, and that a file is
-- kept; each message whole. Assumes nothing: these are definitions.
use Rattle.std.specs.Prelude.{List, [], ◌∷◌, ◌++◌, ℕ}
use Rattle.chars.specs.Ascii.{ascii, decimal_of}
use Rattle.words.specs.Words.{Worded, worded, words_in}
use Rattle.inputs.specs.Why as why
use Rattle.numbers.specs.Fault as fault
use Rattle.reasons.specs.Params.{none}
use Rattle.lines.specs.Messages.{count_of, worded_of, about_of}
use Rattle.lines.specs.Listed.{cause_of}

-- ---- no octets

-- why
unfoldable pub whys : List Worded
whys =
    worded why.form (ascii "not octets in a form I know; --raw takes the input as it is")
    ∷ worded why.groups (ascii "groups of more than two digits side by side may be words or offsets; write octets apart, or one group a line")
    ∷ worded why.offset (ascii "the offset is not the number of octets before it")
    ∷ worded why.column (ascii "the text beside the octets is not theirs")
    ∷ worded why.count (ascii "the length is not the number of octets")
    ∷ worded why.base64 (ascii "not base64")
    ∷ worded why.value (ascii "no option of this carrier holds a value so long")
    ∷ []

unfoldable pub unread_of : List ℕ → ℕ → ℕ → List ℕ
unread_of name line k = about_of name ++ (count_of (ascii ": line ") line ++ (ascii ": " ++ (words_in whys k ++ ascii "\n")))

-- more characters than any text of the longest input
unfoldable pub long_of : List ℕ → List ℕ
long_of name = about_of name ++ ascii ": longer than 655,360 octets\n"

-- ---- refused, nothing found, less than all

-- what another carrier would find, by its number; 0 is none
unfoldable pub hints : List Worded
hints =
    worded 0 []
    ∷ worded 1 (ascii "; read as dhcp4 a resolver is found")
    ∷ worded 2 (ascii "; read as dhcp6 a resolver is found")
    ∷ worded 3 (ascii "; read as ra a resolver is found")
    ∷ worded 4 (ascii "; read as ike4 a resolver is found")
    ∷ worded 5 (ascii "; read as ike6 a resolver is found")
    ∷ []

-- the input is refused by a number
unfoldable pub refused_of : List ℕ → ℕ → ℕ → List ℕ
refused_of name number hint = about_of name ++ (ascii ": refused, " ++ (worded_of number ++ (words_in hints hint ++ ascii "\n")))

-- a sheet, the input of this name, is refused for the name of a resolver: at which octet, and why that is bad (RULES T8)
unfoldable pub refused_at_of : List ℕ → ℕ → ℕ → List ℕ
refused_at_of name octet reason =
    about_of name ++ (count_of (ascii ": octet ") octet ++ (ascii ": refused, " ++ cause_of fault.name reason none))

-- what was looked for, by the carrier
unfoldable pub missing : List Worded
missing =
    worded 1 (ascii ": no option 162 in ")
    ∷ worded 2 (ascii ": no option 144 in ")
    ∷ worded 3 (ascii ": no option 144 in ")
    ∷ worded 4 (ascii ": no attribute 27 in ")
    ∷ worded 5 (ascii ": no attribute 28 in ")
    ∷ []

-- nothing is found in n octets
unfoldable pub nothing_of : List ℕ → ℕ → ℕ → ℕ → List ℕ
nothing_of name carrier n hint =
    about_of name ++ (words_in missing carrier ++ (decimal_of n ++ (ascii " octets" ++ (words_in hints hint ++ ascii "\n"))))

-- blocks were discarded, of those that were found
unfoldable pub less_of : List ℕ → ℕ → ℕ → ℕ → List ℕ
less_of name discarded found hint =
    about_of name ++ (count_of (ascii ": ") discarded ++ (count_of (ascii " of ") found ++ (ascii " blocks discarded" ++ (words_in hints hint ++ ascii "\n"))))

-- a file that has records is not replaced by a sheet that has none
unfoldable pub kept_of : List ℕ → List ℕ
kept_of name = about_of name ++ ascii ": left as it is: it has records, and the new sheet has none; --force replaces it\n"
