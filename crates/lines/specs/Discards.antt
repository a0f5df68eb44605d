-- The line of a discarded block (docs/COMMAND.md, "Less than all") as src/ holds it (`listed::Discard`): its reason and its key are options, and a key is
-- told whatever its number. In `Listed` they are numbers, of which 0 is no reason, and one above every key of 16 bits no key (`DiscardsLaws`: the same
-- line but for such keys). Assumes nothing: these are definitions.
use Rattle.std.specs.Prelude.{List, [], ◌++◌, ℕ, Option, Some, None}
use Rattle.chars.specs.Ascii.{ascii}
use Rattle.reasons.specs.declared.Reason.{Reason}
use Rattle.reasons.specs.Reason as reason
use Rattle.words.specs.Words.{words_in, reasons}
use Rattle.values.specs.Values.{key_of}
use Rattle.lines.specs.Messages.{count_of, worded_of, about_of}

-- why a name is bad (RULES R22), if there is a reason
abbrev pub reason_part : Option Reason → List ℕ
reason_part None = []
reason_part (Some r) = ascii "; " ++ words_in reasons (reason.number_of r)

-- the key of a parameter, if there is one
abbrev pub key_part : Option ℕ → List ℕ
key_part None = []
key_part (Some k) = ascii "; parameter " ++ key_of k

-- why a block is discarded or a sheet refused, to the end of the line
unfoldable pub cause_of : ℕ → Option Reason → Option ℕ → List ℕ
cause_of fault reason key = worded_of fault ++ (reason_part reason ++ (key_part key ++ ascii "\n"))

unfoldable pub discarded_of : List ℕ → ℕ → ℕ → ℕ → Option Reason → Option ℕ → List ℕ
discarded_of name block octet fault reason key =
    about_of name
    ++ (count_of (ascii ": block ") block ++ (count_of (ascii ", octet ") octet ++ (ascii ": discarded, " ++ cause_of fault reason key)))
