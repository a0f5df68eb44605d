-- IP addresses as text: IPv4 in dotted decimal, IPv6 as RFC 5952 §4 and §5 recommend. An address is its octets; a text is the codes of its
-- characters, where `0` is 48, `a` is 97, the dot is 46 and the colon is 58. Assumes nothing: these are definitions.
use Rattle.std.specs.Prelude.{Bool, cond, ◌&&◌, List, [], ◌∷◌, ◌++◌, map, ℕ, zero, suc, ◌+◌, ◌-◌, ◌/◌, ◌%◌, eqb, ltb, take, drop, Option, Some, None}
use Rattle.octets.specs.Numbers.{at16, words, all_zero}
use Rattle.ips.specs.declared.Run.{Run}

-- ---- numbers

-- the character of a digit below 16 (RFC 5952 §4.3: lower case)
unfoldable pub digit : ℕ → ℕ
digit d = cond (ltb d 10) (48 + d) (97 + (d - 10))

-- a number in at most 1 + more digits, with no leading zero (RFC 5952 §4.1)
unfoldable pub numeral : ℕ → ℕ → ℕ → List ℕ
numeral base zero n = digit n ∷ []
numeral base (suc more) n = cond (ltb n base) (digit n ∷ []) (numeral base more (n / base) ++ (digit (n % base) ∷ []))

-- an octet in decimal, and a field of 16 bits in hexadecimal
abbrev pub decimal : ℕ → List ℕ
decimal x = numeral 10 2 x

abbrev pub hex : ℕ → List ℕ
hex f = numeral 16 3 f

-- ---- parts

-- parts with a separator before each, and with one between every two
abbrev pub led : ℕ → List (List ℕ) → List ℕ
led c [] = []
led c (p ∷ ps) = c ∷ (p ++ led c ps)

abbrev pub joined : ℕ → List (List ℕ) → List ℕ
joined c [] = []
joined c (p ∷ ps) = p ++ led c ps

-- ---- IPv4

-- four octets as text
unfoldable pub text4 : List ℕ → List ℕ
text4 a = joined 46 (map decimal a)

-- ---- IPv6

-- how many zero fields stand at the front
unfoldable pub zeros_ahead : List ℕ → ℕ
zeros_ahead [] = 0
zeros_ahead (f ∷ fs) = cond (eqb f 0) (zeros_ahead fs + 1) 0

-- n fields from the one with index i on
abbrev pub run : ℕ → ℕ → Run
run i n = record { start = i; count = n }

-- of two runs the longer; the first where both are as long
abbrev pub longer : Run → Run → Run
longer p q = cond (ltb p.count q.count) q p

-- the longest run of zeros in fields of which the first has index i; the first of the longest
unfoldable pub longest_from : ℕ → List ℕ → Run
longest_from i [] = run i 0
longest_from i (f ∷ fs) = longer (run i (zeros_ahead (f ∷ fs))) (longest_from (i + 1) fs)

-- a run that may be shortened: one field alone may not (RFC 5952 §4.2.2), and then the run has a count of 0
abbrev pub shortening : Run → Run
shortening r = cond (ltb r.count 2) (run 0 0) r

-- the run of an answer of the code: none is the run with a count of 0; one that is there has two fields at least, so the run tells which
abbrev pub run_or_none : Option Run → Run
run_or_none None = run 0 0
run_or_none (Some r) = r

-- the run that is shortened: the longest, and the first where several are as long (RFC 5952 §4.2.3)
unfoldable pub run_of : List ℕ → Run
run_of fs = shortening (longest_from 0 fs)

-- fields with colons between them
unfoldable pub colons : List ℕ → List ℕ
colons fs = joined 58 (map hex fs)

-- fields with two colons in the place of a whole run (RFC 5952 §4.2.1)
unfoldable pub around : Run → List ℕ → List ℕ
around r fs = colons (take r.start fs) ++ (58 ∷ 58 ∷ colons (drop (r.start + r.count) fs))

-- fields with a run shortened, if it has any
unfoldable pub shortened : Run → List ℕ → List ℕ
shortened r fs = cond (eqb r.count 0) (colons fs) (around r fs)

-- whether an address has the prefix ::ffff:0:0/96 (RFC 4291 §2.5.5.2, IPv4-mapped addresses)
unfoldable pub mapped : List ℕ → Bool
mapped a = all_zero (take 10 a) && eqb (at16 a 10) 65535

-- ::ffff: and the IPv4 address in the last four octets (RFC 5952 §5, mixed notation under a well-known prefix)
unfoldable pub mixed : List ℕ → List ℕ
mixed a = 58 ∷ 58 ∷ 102 ∷ 102 ∷ 102 ∷ 102 ∷ 58 ∷ text4 (drop 12 a)

-- sixteen octets as text
unfoldable pub text6 : List ℕ → List ℕ
text6 a = cond (mapped a) (mixed a) (shortened (run_of (words a)) (words a))
