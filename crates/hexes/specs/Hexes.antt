-- Octets as hexadecimal text, in the form in which Wireshark copies a byte string: what each character is, how a text is read, and
-- how octets are written. Characters are given by their ASCII numbers. Assumes nothing: these are definitions.
use Rattle.std.specs.Prelude.{Bool, cond, ◌&&◌, ◌||◌, List, [], ◌∷◌, ◌++◌, ℕ, ◌+◌, ◌-◌, ◌*◌, ◌/◌, ◌%◌, ltb, eqb}
use Rattle.octets.specs.Numbers.{range}

-- ---- characters

-- x is one of 0 to 9, A to F and a to f
unfoldable pub digit : ℕ → Bool
digit x = range 48 57 x || range 65 70 x || range 97 102 x

-- the value of a digit, 0 to 15
unfoldable pub value : ℕ → ℕ
value x = cond (ltb x 65) (x - 48) (cond (ltb x 97) (x - 55) (x - 87))

-- x is a space, tab, line feed, carriage return or colon
unfoldable pub separator : ℕ → Bool
separator x = eqb x 32 || eqb x 9 || eqb x 10 || eqb x 13 || eqb x 58

-- the octet of two digits, the more significant first
abbrev pub octet : ℕ → ℕ → ℕ
octet x y = value x * 16 + value y

-- ---- reading

-- the octets of a text, or that it is no hexadecimal text
pub data Read : Type 0 where
  octets : List ℕ → Read
  other : Read

-- b before the octets of the rest
abbrev pub onto : ℕ → Read → Read
onto b (octets bs) = octets (b ∷ bs)
onto b other = other

-- pairs of digits, with any number of separators before, between and after them
unfoldable pub pairs : List ℕ → Read
pairs [] = octets []
pairs (x ∷ []) = cond (separator x) (octets []) other
pairs (x ∷ y ∷ t) = cond (separator x) (pairs (y ∷ t)) (cond (digit x && digit y) (onto (octet x y) (pairs t)) other)

-- at least one octet
abbrev pub some : Read → Read
some (octets []) = other
some (octets (b ∷ bs)) = octets (b ∷ bs)
some other = other

-- pairs of digits, one at least
abbrev pub read_hex : List ℕ → Read
read_hex t = some (pairs t)

-- ---- writing

-- the digit of a value below 16, in lower case
unfoldable pub digit_of : ℕ → ℕ
digit_of v = cond (ltb v 10) (48 + v) (87 + v)

-- the two digits of an octet
abbrev pub two : ℕ → List ℕ
two b = digit_of (b / 16) ∷ digit_of (b % 16) ∷ []

-- the digits of octets, with nothing between them
abbrev pub hex_of : List ℕ → List ℕ
hex_of [] = []
hex_of (b ∷ bs) = two b ++ hex_of bs
