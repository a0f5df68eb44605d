-- Where a dump stands in a line: the same names as in src/. Assumes nothing: these are definitions.
use Rattle.std.specs.Prelude.{ℕ}

-- before the offset
abbrev pub start : ℕ
start = 0

-- before the x of 0x
abbrev pub prefix : ℕ
prefix = 1

-- before the rest of the offset
abbrev pub offset : ℕ
offset = 2

-- after a star
abbrev pub star : ℕ
star = 3

-- after a colon
abbrev pub gap : ℕ
gap = 4

-- after the offset
abbrev pub after : ℕ
after = 5

-- after the first digit of an octet
abbrev pub high : ℕ
high = 6

-- after the second: here alone an octet is complete
abbrev pub low : ℕ
low = 7

-- after an octet and one blank
abbrev pub one : ℕ
one = 8

-- after an octet and two blanks or more
abbrev pub more : ℕ
more = 9

-- in the text column
abbrev pub text : ℕ
text = 10

-- after what closes it
abbrev pub closed : ℕ
closed = 11
