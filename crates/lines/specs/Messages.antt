-- What the command says on standard error (docs/COMMAND.md) of its command line and of the system, each message whole, and the parts that the others have
-- in common with them. Assumes nothing: these are definitions.
use Rattle.std.specs.Prelude.{cond, List, [], ◌∷◌, ◌++◌, ℕ, leb}
use Rattle.chars.specs.Ascii.{ascii, decimal_of}
use Rattle.words.specs.Words.{Worded, worded, words_in, words_of}
use Rattle.arguments.specs.Wrong as wrong

-- words and the number after them
abbrev pub count_of : List ℕ → ℕ → List ℕ
count_of before n = before ++ decimal_of n

-- a number given back (RULES R1 to R44) and its words
unfoldable pub worded_of : ℕ → List ℕ
worded_of n = decimal_of n ++ (ascii ": " ++ words_of n)

-- the program's name before what a message is about
abbrev pub about_of : List ℕ → List ℕ
about_of name = ascii "dnr: " ++ name

-- ---- a call of the system that failed

-- on a file; why, by the system's number
unfoldable pub failed_of : List ℕ → ℕ → List ℕ
failed_of name errno = about_of name ++ (count_of (ascii ": errno ") errno ++ ascii "\n")

-- a file that is to be replaced can be written to, and no file can be made in its folder
unfoldable pub beside_of : List ℕ → ℕ → List ℕ
beside_of name errno = about_of name ++ (count_of (ascii ": cannot make a file beside it: errno ") errno ++ ascii "\n")

-- ---- a command line that is wrong

-- what is wrong
unfoldable pub table : List Worded
table =
    worded wrong.command (ascii "unknown command: ")
    ∷ worded wrong.option (ascii "unknown option: ")
    ∷ worded wrong.carrier (ascii "unknown carrier: ")
    ∷ worded wrong.file (ascii "a second file: ")
    ∷ worded wrong.long (ascii "an argument is too long")
    ∷ worded wrong.no_carrier (ascii "read needs a carrier")
    ∷ worded wrong.no_name (ascii "-o needs a file name")
    ∷ worded wrong.output (ascii "-o is given twice")
    ∷ worded wrong.form (ascii "--hex, --raw and --base64 exclude each other")
    ∷ worded wrong.only_read (ascii "--value, --strict and --force are for read")
    ∷ worded wrong.show_output (ascii "show has no -o")
    ∷ worded wrong.json_output (ascii "--json and -o - exclude each other")
    ∷ []

-- the argument that is wrong follows the first four
abbrev pub culprit : ℕ → List ℕ → List ℕ
culprit w argument = cond (leb wrong.long w) [] argument

unfoldable pub usage_of : ℕ → List ℕ → List ℕ
usage_of w argument = ascii "dnr: " ++ (words_in table w ++ (culprit w argument ++ ascii "\n"))
