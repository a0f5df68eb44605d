-- What the command lists of an area that is not taken whole (docs/COMMAND.md, "Less than all"): a block that is discarded, an address that is dropped; each
-- line whole. Assumes nothing: these are definitions.
use Rattle.std.specs.Prelude.{cond, List, [], ◌++◌, ℕ, ltb, eqb}
use Rattle.chars.specs.Ascii.{ascii}
use Rattle.reasons.specs.Params.{none}
use Rattle.words.specs.Words.{words_in, reasons}
use Rattle.values.specs.Values.{key_of, address_of}
use Rattle.lines.specs.Messages.{count_of, worded_of, about_of}

-- ---- a block

-- why a name is bad (RULES R22); 0 is no reason
abbrev pub reason_part : ℕ → List ℕ
reason_part r = cond (eqb r 0) [] (ascii "; " ++ words_in reasons r)

-- the key of a parameter, if there is one
abbrev pub key_part : ℕ → List ℕ
key_part k = cond (ltb k none) (ascii "; parameter " ++ key_of k) []

-- why a block is discarded or a sheet refused, to the end of the line
unfoldable pub cause_of : ℕ → ℕ → ℕ → List ℕ
cause_of fault reason key = worded_of fault ++ (reason_part reason ++ (key_part key ++ ascii "\n"))

unfoldable pub discarded_of : List ℕ → ℕ → ℕ → ℕ → ℕ → ℕ → List ℕ
discarded_of name block octet fault reason key =
    about_of name
    ++ (count_of (ascii ": block ") block ++ (count_of (ascii ", octet ") octet ++ (ascii ": discarded, " ++ cause_of fault reason key)))

-- ---- an address

unfoldable pub dropped_of : List ℕ → ℕ → ℕ → List ℕ → List ℕ
dropped_of name block octet a =
    about_of name
    ++ (count_of (ascii ": block ") block
    ++ (count_of (ascii ", octet ") octet ++ (ascii ": address " ++ (address_of a ++ ascii " dropped: multicast or loopback\n"))))
