-- What a command line asks for (docs/COMMAND.md): the state of the line, word after word, and what is settled at its end. An argument is
-- kept by its index. Assumes nothing: these are definitions.
use Rattle.std.specs.Prelude.{◌≡◌, Bool, true, false, cond, not, ◌&&◌, ◌||◌, List, [], ◌∷◌, ℕ, ◌+◌, leb, eqb, length, drop, Option, Some, None}
use Rattle.std.specs.Option.{is_some}
use Rattle.chars.specs.Ascii.{ascii}
use Rattle.carriers.specs.declared.Carrier.{Carrier}
use Rattle.arguments.specs.declared.asked.Asked.{Asked}
use Rattle.arguments.specs.declared.Target.{Target}
use Rattle.arguments.specs.declared.Complaint.{Complaint}
use Rattle.arguments.specs.declared.Command.{Command}
use Rattle.arguments.specs.declared.Command.TheVariants.{Read, Help}
use Rattle.arguments.specs.declared.Form.{Form}
use Rattle.arguments.specs.declared.tables.Choice.{Choice}
use Rattle.arguments.specs.declared.tables.Choice.TheVariants as option
use Rattle.arguments.specs.declared.Wrong.{Wrong}
use Rattle.arguments.specs.declared.Wrong.TheVariants as wrong
use Rattle.arguments.specs.Command as command
use Rattle.arguments.specs.Form as form
use Rattle.arguments.specs.Tables.{command_of, option_of, carrier_of, is_option, is_dash, front_of}

-- ---- the state of a line

abbrev asked : Option Command → Option Carrier → ℕ → Option ℕ → Option Target → Bool → Bool → Bool → Option Form → Bool → Bool → Bool → Option Complaint → Asked
asked c k n i o p e j h v s g w =
    record {
      command = c;
      carrier = k;
      words = n;
      input = i;
      output = o;
      pending = p;
      ended = e;
      json = j;
      form = h;
      value = v;
      strict = s;
      force = g;
      wrong = w;
    }

-- a command, and nothing more yet: `words` counts the carrier and the file, and only `read` has a carrier
abbrev pub only : Option Command → ℕ → Asked
only c n = asked c None n None None false false false None false false false None

-- the same line, but with another part of it: what is wrong
abbrev complaining : Option Complaint → Asked → Asked
complaining w a = asked a.command a.carrier a.words a.input a.output a.pending a.ended a.json a.form a.value a.strict a.force w

-- and the argument that is, if one is
abbrev pub but : Wrong → Option ℕ → Asked → Asked
but w at a = complaining (Some (record { wrong = w; at = at })) a

-- the command
abbrev asking : Command → Asked → Asked
asking c a = asked (Some c) a.carrier a.words a.input a.output a.pending a.ended a.json a.form a.value a.strict a.force a.wrong

-- the carrier, how many words have stood, and the file that is read
abbrev pub from : Option Carrier → ℕ → Option ℕ → Asked → Asked
from k n i a = asked a.command k n i a.output a.pending a.ended a.json a.form a.value a.strict a.force a.wrong

-- the file that is written, and whether the next word is its name
abbrev pub into : Option Target → Bool → Asked → Asked
into o p a = asked a.command a.carrier a.words a.input o p a.ended a.json a.form a.value a.strict a.force a.wrong

-- the argument that holds its name, how many octets stand before the name, and whether the name is `-`
abbrev target : ℕ → ℕ → Bool → Option Target
target i f d = Some (record { at = i; front = f; dashed = d })

-- `--`, `--json`, the form, `--value`, `--strict`, `--force`
abbrev with : Bool → Bool → Option Form → Bool → Bool → Bool → Asked → Asked
with e j h v s g a = asked a.command a.carrier a.words a.input a.output a.pending e j h v s g a.wrong

abbrev pub with_json : Asked → Asked
with_json a = with a.ended true a.form a.value a.strict a.force a

abbrev pub with_end : Asked → Asked
with_end a = with true a.json a.form a.value a.strict a.force a

-- no further word matters after an error, and after a command that has no more words: `--json` alone is still heard
abbrev pub decided : Asked → Bool
decided a = is_some a.wrong || command.is_wordless a.command

-- ---- an option

-- a form of the input: the same one may be asked for twice
abbrev pub formed : Option Form → ℕ → Form → Asked → Asked
formed None i h a = with a.ended a.json (Some h) a.value a.strict a.force a
formed (Some f) i h a = cond (form.same f h) a (but wrong.Form (Some i) a)

abbrev pub with_form : ℕ → Form → Asked → Asked
with_form i h a = formed a.form i h a

-- `-o`: the next word names the file that is written
abbrev pub with_pending : ℕ → Asked → Asked
with_pending i a = cond (is_some a.output) (but wrong.Output (Some i) a) (into a.output true a)

-- its name, in an argument of its own
abbrev pub with_output : ℕ → List ℕ → Asked → Asked
with_output i w a = into (target i 0 (is_dash w)) false a

-- `-oFILE`, `--output=FILE`: f octets before the name
abbrev pub attached : ℕ → List ℕ → Option ℕ → Asked → Asked
attached i w None a = but wrong.Option (Some i) a
attached i w (Some f) a =
    cond (is_some a.output) (but wrong.Output (Some i) a)
    (cond (leb (length w) f) (but wrong.NoName (Some i) a) (into (target i f (is_dash (drop f w))) a.pending a))

-- an option of the table; the last is `--`
abbrev pub chosen : ℕ → Choice → Asked → Asked
chosen i (option.Form h) a = with_form i h a
chosen i option.Output a = with_pending i a
chosen i option.Json a = with_json a
chosen i option.Value a = with a.ended a.json a.form true a.strict a.force a
chosen i option.Strict a = with a.ended a.json a.form a.value true a.force a
chosen i option.Force a = with a.ended a.json a.form a.value a.strict true a
chosen i option.Help a = asking Help a
chosen i option.End a = with_end a

-- a word that no table has may hold the name of the file that is written
abbrev pub optional : ℕ → List ℕ → Option Choice → Asked → Asked
optional i w None a = attached i w (front_of w) a
optional i w (Some k) a = chosen i k a

abbrev pub with_option : ℕ → List ℕ → Asked → Asked
with_option i w a = optional i w (option_of w) a

-- ---- a word that is no option

-- the carrier, or none
abbrev pub carried : ℕ → Option Carrier → Asked → Asked
carried i None a = but wrong.Carrier (Some i) a
carried i (Some k) a = from (Some k) 1 a.input a

abbrev pub with_carrier : ℕ → List ℕ → Asked → Asked
with_carrier i w a = carried i (carrier_of w) a

-- the file that is read; `-` is standard input, as no file is
abbrev pub with_input : ℕ → List ℕ → Asked → Asked
with_input i w a =
    cond (eqb a.words 2) (but wrong.File (Some i) a)
    (cond (is_dash w) (from a.carrier 2 a.input a) (from a.carrier 2 (Some i) a))

-- `read` has the carrier first
abbrev pub with_plain : ℕ → List ℕ → Asked → Asked
with_plain i w a = cond (eqb a.words 0) (with_carrier i w a) (with_input i w a)

-- one word more: after `--` none is an option
abbrev pub with_word : ℕ → List ℕ → Asked → Asked
with_word i w a = cond a.ended (with_plain i w a) (cond (is_option w) (with_option i w a) (with_plain i w a))

-- ---- a line

-- an argument as it is given: its octets, or that they are more than are taken (4,096)
pub data Argument : Type 0 where
  word : List ℕ → Argument
  long : Argument

-- a word where no further one matters: `--json` is still heard, unless `--` stood before
abbrev pub listened : Option Choice → Asked → Asked
listened (Some option.Json) a = with_json a
listened (Some option.End) a = with_end a
listened k a = a

abbrev pub heard : List ℕ → Asked → Asked
heard w a = cond a.ended a (listened (option_of w) a)

-- the word at an index; after `-o` it is a name, whatever it looks like
abbrev pub with_next : ℕ → List ℕ → Asked → Asked
with_next i w a = cond (decided a) (heard w a) (cond a.pending (with_output i w a) (with_word i w a))

-- an argument that is too long, also as a name after `-o`
abbrev pub with_long : ℕ → Asked → Asked
with_long i a = cond (decided a) a (but wrong.Long (Some i) (into a.output false a))

-- the argument at an index
abbrev pub with_argument : ℕ → Argument → Asked → Asked
with_argument i (word w) a = with_next i w a
with_argument i long a = with_long i a

-- the arguments from an index on
unfoldable pub with_rest : ℕ → List Argument → Asked → Asked
with_rest i [] a = a
with_rest i (x ∷ xs) a = with_rest (i + 1) xs (with_argument i x a)

-- `--`, and `--json`
abbrev pub end : Argument
end = word (ascii "--")

abbrev pub json_option : Argument
json_option = word (ascii "--json")

-- a line without its carrier, its file and what is wrong with it: the command and its options (arguments/Ended says what `--` leaves of them)
abbrev pub options_of : Asked → Asked
options_of a = complaining None (from None 0 None a)

-- the first word is a command, or none
abbrev pub begun : Option Command → Asked
begun None = but wrong.Command (Some 1) (only None 0)
begun (Some Read) = only (Some Read) 0
begun (Some c) = only (Some c) 1

-- `--json` may stand there too, though no command does then
abbrev pub first_of : Argument → Asked
first_of (word w) = heard w (begun (command_of w))
first_of long = but wrong.Long (Some 1) (only None 0)

-- ---- the end of a line

-- `--value`, `--strict` or `--force`, without `read`
abbrev pub readless : Asked → Bool
readless a = not (command.is_read a.command) && (a.value || (a.strict || a.force))

-- `-o` with `show`
abbrev pub shown_into : Asked → Bool
shown_into a = command.is_show a.command && is_some a.output

abbrev pub dashed : Option Target → Bool
dashed None = false
dashed (Some t) = t.dashed

-- `--json` with `-o -`: both would write to standard output
abbrev pub json_into : Asked → Bool
json_into a = a.json && dashed a.output

-- what can only be told at the end is wrong, or nothing: the first of these
abbrev pub wrong_of : Asked → Option Wrong
wrong_of a =
    cond a.pending (Some wrong.NoName)
    (cond (eqb a.words 0) (Some wrong.NoCarrier)
    (cond (readless a) (Some wrong.OnlyRead)
    (cond (shown_into a) (Some wrong.ShowOutput)
    (cond (json_into a) (Some wrong.JsonOutput)
    None))))

abbrev pub ending : Option Wrong → Asked → Asked
ending None a = a
ending (Some w) a = but w None a

abbrev pub settled_of : Asked → Asked
settled_of a = cond (decided a) a (ending (wrong_of a) a)

-- the first argument, the command word, and those after it
unfoldable pub asked_of : Argument → List Argument → Asked
asked_of x xs = settled_of (with_rest 2 xs (first_of x))

-- ---- what the system gives

-- a is what some arguments ask for: those that the system gave
pub record Given (a : Asked) : Type 0 where
  pub first : Argument
  pub rest : List Argument
  pub is : a ≡ asked_of first rest

-- a is b with an argument more, at i
pub record Argued (i : ℕ) (b a : Asked) : Type 0 where
  pub argument : Argument
  pub is : a ≡ with_argument i argument b

-- a is what a first argument asks for
pub record Begun (a : Asked) : Type 0 where
  pub argument : Argument
  pub is : a ≡ first_of argument
