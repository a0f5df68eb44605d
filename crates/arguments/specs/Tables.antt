-- The words of a command line that have a number (docs/COMMAND.md); several words may have the same. Assumes nothing: these are definitions.
use Rattle.std.specs.Prelude.{ℕ, Bool, false, cond, List, [], ◌∷◌, ltb, eqb, length, get_or, take, Option, Some, None}
use Rattle.octets.specs.Lists.{same}
use Rattle.chars.specs.Ascii.{ascii}
use Rattle.words.specs.Words.{Worded, worded, number_in}
use Rattle.carriers.specs.declared.Carrier.{Carrier}
use Rattle.carriers.specs.Carriers.{chosen_of}
use Rattle.arguments.specs.declared.Command.{Command}
use Rattle.arguments.specs.declared.tables.Choice.{Choice}
use Rattle.arguments.specs.Command as command
use Rattle.arguments.specs.Form as form
use Rattle.arguments.specs.Options as option

-- the first word
unfoldable pub commands : List Worded
commands =
    worded command.read (ascii "read")
    ∷ worded command.write (ascii "write")
    ∷ worded command.show (ascii "show")
    ∷ worded command.octets (ascii "octets")
    ∷ worded command.help (ascii "help")
    ∷ worded command.help (ascii "--help")
    ∷ worded command.help (ascii "-h")
    ∷ worded command.version (ascii "version")
    ∷ worded command.version (ascii "--version")
    ∷ worded command.version (ascii "-V")
    ∷ []

-- a word that begins with a hyphen, unless `--` stood before it
unfoldable pub options : List Worded
options =
    worded form.hex (ascii "--hex")
    ∷ worded form.raw (ascii "--raw")
    ∷ worded form.base64 (ascii "--base64")
    ∷ worded option.output (ascii "-o")
    ∷ worded option.output (ascii "--output")
    ∷ worded option.json (ascii "--json")
    ∷ worded option.value (ascii "--value")
    ∷ worded option.strict (ascii "--strict")
    ∷ worded option.force (ascii "--force")
    ∷ worded option.help (ascii "--help")
    ∷ worded option.help (ascii "-h")
    ∷ worded option.end (ascii "--")
    ∷ []

-- the carrier of `read`, by its number or by a name
unfoldable pub carriers : List Worded
carriers =
    worded 1 (ascii "1")
    ∷ worded 1 (ascii "dhcp4")
    ∷ worded 1 (ascii "dhcpv4")
    ∷ worded 1 (ascii "DHCP4")
    ∷ worded 1 (ascii "DHCPv4")
    ∷ worded 1 (ascii "DHCPV4")
    ∷ worded 2 (ascii "2")
    ∷ worded 2 (ascii "dhcp6")
    ∷ worded 2 (ascii "dhcpv6")
    ∷ worded 2 (ascii "DHCP6")
    ∷ worded 2 (ascii "DHCPv6")
    ∷ worded 2 (ascii "DHCPV6")
    ∷ worded 3 (ascii "3")
    ∷ worded 3 (ascii "ra")
    ∷ worded 3 (ascii "RA")
    ∷ worded 4 (ascii "4")
    ∷ worded 4 (ascii "ike4")
    ∷ worded 4 (ascii "IKE4")
    ∷ worded 4 (ascii "encdns_ip4")
    ∷ worded 4 (ascii "ENCDNS_IP4")
    ∷ worded 5 (ascii "5")
    ∷ worded 5 (ascii "ike6")
    ∷ worded 5 (ascii "IKE6")
    ∷ worded 5 (ascii "encdns_ip6")
    ∷ worded 5 (ascii "ENCDNS_IP6")
    ∷ []

-- what a word is in each
abbrev pub command_of : List ℕ → Option Command
command_of w = command.of (number_in commands w)

abbrev pub option_of : List ℕ → Option Choice
option_of w = option.of (number_in options w)

abbrev pub carrier_of : List ℕ → Option Carrier
carrier_of w = chosen_of (number_in carriers w)

-- ---- words by how they begin

-- an option: a hyphen and more
abbrev pub is_option : List ℕ → Bool
is_option w = cond (ltb (length w) 2) false (eqb (get_or w 0 0) 45)

-- the name `-`: standard input, standard output
abbrev pub is_dash : List ℕ → Bool
is_dash w = same w (ascii "-")

abbrev pub begins : List ℕ → List ℕ → Bool
begins x w = same (take (length x) w) x

-- how many octets stand before the file's name in `-oFILE` and `--output=FILE`; none in any other word
abbrev pub front_of : List ℕ → Option ℕ
front_of w = cond (begins (ascii "-o") w) (Some 2) (cond (begins (ascii "--output=") w) (Some 9) None)
