-- Octets as \x and two digits each, with blanks and quotation marks between them (docs/COMMAND.md, "Lists"), in the code's order of tests. Assumes nothing:
-- these are definitions.
use Rattle.std.specs.Prelude.{◌≡◌, cond, List, [], ◌∷◌, ◌++◌, ℕ, ◌+◌, leb, eqb, length, set}
use Rattle.hexes.specs.Hexes.{digit}
use Rattle.hexes.specs.Hexes as hexes
use Rattle.inputs.specs.Why as why
use Rattle.inputs.specs.Read.{Read, Octets, Bad, Long}

-- where such a text stands: between octets 0, after the backslash 1, after the x 2, after the first digit 3, after the second 4; 5 that it is none
abbrev pub between : ℕ → ℕ
between x =
    cond (eqb x 92) 1
    (cond (eqb x 34) 0 (cond (eqb x 32) 0 (cond (eqb x 9) 0 (cond (eqb x 13) 0 (cond (eqb x 10) 0 5)))))

abbrev pub digit_to : ℕ → ℕ → ℕ
digit_to x at = cond (digit x) at 5

abbrev pub next : ℕ → ℕ → ℕ
next at x =
    cond (eqb at 1) (cond (eqb x 120) 2 5)
    (cond (eqb at 2) (digit_to x 3)
    (cond (eqb at 3) (digit_to x 4) (between x)))

-- the octet of two digits
abbrev pub octet_of : ℕ → ℕ → ℕ
octet_of x y = cond (digit x) (cond (digit y) (hexes.octet x y) 0) 0

-- ---- a text

pub record Ended : Type 0 where
  pub read : Read
  pub out : List ℕ

abbrev pub ended : Read → List ℕ → Ended
ended r out = record { read = r; out = out }

-- at the i-th character, which leads to `at`: none; an octet, laid at n; or on
abbrev pub arrive : ℕ → ℕ → ℕ → ℕ → List ℕ → (ℕ → List ℕ → Ended) → Ended
arrive at b n i out onward =
    cond (eqb at 5) (ended (Bad i why.form) out)
    (cond (eqb at 4) (cond (leb (length out) n) (ended Long out) (onward (n + 1) (set out n b))) (onward n out))

-- the characters from the i-th on, after the character `high`
unfoldable pub read_from : ℕ → ℕ → ℕ → ℕ → List ℕ → List ℕ → Ended
read_from at high n i out [] = ended (Octets n) out
read_from at high n i out (x ∷ xs) = arrive (next at x) (octet_of high x) n i out (λ m out'. read_from (next at x) x m (i + 1) out' xs)

unfoldable pub read_of : List ℕ → List ℕ → Ended
read_of text out = read_from 0 48 0 0 out (text ++ (10 ∷ []))

pub record Escaped (text out : List ℕ) (r : Read) (out' : List ℕ) : Type 0 where
  pub answered : r ≡ (read_of text out).read
  pub leaves : out' ≡ (read_of text out).out
