-- Where a case of the program's input ends. Assumes nothing: these are definitions.
use Rattle.std.specs.Prelude.{cond, List, ℕ, ◌+◌, ◌-◌, ◌≤◌, ltb, eqb, length, get_or, Option, Some, None}
use Rattle.octets.specs.Numbers.{at32}

-- a room and a length of four octets each stand from `at` on, and as many octets as the length says
unfoldable pub end_of : List ℕ → ℕ → Option ℕ
end_of s at =
    cond (ltb (length s - at) 8) None
    (cond (ltb (length s - (at + 8)) (at32 s (at + 4))) None (Some (at + 8 + at32 s (at + 4))))

-- a case of reading has a carrier before them
abbrev pub read_end : List ℕ → ℕ → Option ℕ
read_end s at = cond (eqb (length s) at) None (end_of s (at + 1))

-- a case from its letter on: r or w
abbrev pub case_end : List ℕ → ℕ → Option ℕ
case_end s at = cond (eqb (get_or s at 0) 114) (read_end s (at + 1)) (cond (eqb (get_or s at 0) 119) (end_of s (at + 1)) None)

-- a case that ends does so from `at` on, and within s
abbrev pub Past : ℕ → List ℕ → Option ℕ → Type 0
Past at s (Some e) = (at ≤ e) × (e ≤ length s)
Past at s None = Unit
