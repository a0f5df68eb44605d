-- What a text is read as that is to be base64 (RFC 4648 §4), in the code's order of tests. Characters are given by their ASCII numbers. Assumes
-- nothing: these are definitions.
use Rattle.std.specs.Prelude.{◌≡◌, Bool, true, false, cond, List, [], ◌∷◌, ℕ, ◌+◌, ◌-◌, ◌*◌, ◌/◌, ◌%◌, leb, ltb, eqb, length, take}
use Rattle.octets.specs.Numbers.{range}
use Rattle.octets.specs.Over.{over}
use Rattle.inputs.specs.Why as why
use Rattle.inputs.specs.Read.{Read, Octets, Bad, Long}
use Rattle.base64_text.specs.Quantum.{Quantum}

-- ---- a character

-- x is a space, tab, carriage return or line feed
abbrev pub blank : ℕ → Bool
blank x = cond (eqb x 32) true (cond (eqb x 9) true (cond (eqb x 13) true (eqb x 10)))

-- the value of a character of the alphabet, A to Z, a to z, 0 to 9, + and / (RFC 4648 §4, table 1); 64 of any other
unfoldable pub value : ℕ → ℕ
value x =
    cond (range 65 90 x) (x - 65)
    (cond (range 97 122 x) (x - 97 + 26)
    (cond (range 48 57 x) (x - 48 + 52)
    (cond (eqb x 43) 62 (cond (eqb x 47) 63 64))))

-- ---- a quantum

-- The place: 0 to 3, so many of its characters stand; 4, one more padding character is wanted; 5, the text has ended; 6, it is no base64.
abbrev pub quantum : ℕ → ℕ → ℕ → Bool → Quantum
quantum p l o c = record { place = p; last = l; octet = o; complete = c }

abbrev pub begun : Quantum
begun = quantum 0 0 0 false

-- at another place, with no octet completed
abbrev pub to : ℕ → Quantum → Quantum
to p s = quantum p s.last s.octet false

-- the octet that a character of value v completes, after one of value l: the last bits of l and the first of v
unfoldable pub octet_of : ℕ → ℕ → ℕ → ℕ
octet_of p l v = cond (eqb p 1) (l % 64 * 4 + v / 16) (cond (eqb p 2) (l % 16 * 16 + v / 4) (l % 4 * 64 + v))

-- a padding character stands after two or three characters, and the bits under it are zero (RFC 4648 §3.5); after two it stands twice
unfoldable pub padded : Quantum → Quantum
padded s =
    cond (eqb s.place 2) (cond (eqb (s.last % 16) 0) (to 4 s) (to 6 s))
    (cond (eqb s.place 3) (cond (eqb (s.last % 4) 0) (to 5 s) (to 6 s))
    (cond (eqb s.place 4) (to 5 s) (to 6 s)))

-- a character of value v; the first of a quantum completes no octet
unfoldable pub filled : ℕ → Quantum → Quantum
filled v s =
    cond (leb 64 v) (to 6 s)
    (cond (leb 4 s.place) (to 6 s)
    (quantum ((s.place + 1) % 4) v (octet_of s.place s.last v) (leb 1 s.place)))

-- a character x
unfoldable pub moved : ℕ → Quantum → Quantum
moved x s = cond (blank x) (to s.place s) (cond (eqb x 61) (padded s) (filled (value x) s))

-- a text may end here
abbrev pub whole : Quantum → Bool
whole s = cond (eqb s.place 0) true (eqb s.place 5)

-- ---- a text

-- a text is base64, or is at fault at a character; at its end it has a character too few
pub data End : Type 0 where
  good : End
  fault : ℕ → End

-- the octets up to the end or the fault
pub record Decoded : Type 0 where
  pub octets : List ℕ
  pub end : End

abbrev pub none : End → Decoded
none e = record { octets = []; end = e }

-- these octets, and no fault
abbrev pub decoded : List ℕ → Decoded
decoded bs = record { octets = bs; end = good }

abbrev pub onto : ℕ → Decoded → Decoded
onto b d = record { octets = b ∷ d.octets; end = d.end }

-- after the i-th character: at fault there, or on
abbrev pub arrive : Quantum → ℕ → Decoded → Decoded
arrive s i rest = cond (eqb s.place 6) (none (fault i)) (cond s.complete (onto s.octet rest) rest)

-- the characters from the i-th on
unfoldable pub decode_from : Quantum → ℕ → List ℕ → Decoded
decode_from s i [] = cond (whole s) (none good) (none (fault i))
decode_from s i (x ∷ t) = arrive (moved x s) i (decode_from (moved x s) (i + 1) t)

unfoldable pub decode : List ℕ → Decoded
decode t = decode_from begun 0 t

-- ---- what the call answers and leaves in the buffer

abbrev pub told : End → ℕ → Read
told good n = Octets n
told (fault i) n = Bad i why.base64

-- too long, where there are more octets than room, even before a fault
abbrev pub answer : ℕ → Decoded → Read
answer room d = cond (ltb room (length d.octets)) Long (told d.end (length d.octets))

-- the octets stand at the front of the buffer, as many as it holds, and also those before a fault
pub record Answered (text out : List ℕ) (r : Read) (out' : List ℕ) : Type 0 where
  pub answered : r ≡ answer (length out) (decode text)
  pub leaves : out' ≡ over 0 (take (length out) (decode text).octets) out
