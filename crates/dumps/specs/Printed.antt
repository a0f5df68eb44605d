-- What two tools write for octets, 16 in a line: `xxd`, and `hexdump -C -v`. Assumes nothing: these are definitions.
use Rattle.std.specs.Prelude.{true, false, cond, List, [], ◌∷◌, ◌++◌, map, ℕ, zero, suc}
use Rattle.std.specs.Prelude.{◌+◌, ◌-◌, ◌/◌, ◌%◌, eqb, length, take, drop, replicate, Some, None}
use Rattle.hexes.specs.Hexes.{digit_of, two}
use Rattle.dumps.specs.declared.Style.{Style}
use Rattle.dumps.specs.States.{shown_of}

-- how a tool writes a line: what stands after the eight digits of the offset, before the i-th octet, and before and after the text column, and how many
-- characters the octets take
pub record Layout : Type 0 where
  pub style : Style
  pub mark : List ℕ
  pub then : List ℕ
  pub gap : ℕ → List ℕ
  pub wide : ℕ
  pub fence : List ℕ

-- xxd: a colon, groups of two octets, and nothing around the column
abbrev pub xxd : Layout
xxd = record {
  style = record { digits = 8; prefix = false; colon = true; pairs = true; opening = None; closing = None; column = false; ends = false };
  mark = 58 ∷ [];
  then = 32 ∷ [];
  gap = λ i. cond (eqb (i % 2) 1) [] (32 ∷ []);
  wide = 39;
  fence = [];
}

-- hexdump -C: two blanks, octets, two blanks before the eighth from 0, and bars around the column
abbrev pub hexdump : Layout
hexdump = record {
  style = record { digits = 8; prefix = false; colon = false; pairs = false; opening = Some 124; closing = Some 124; column = true; ends = true };
  mark = [];
  then = 32 ∷ 32 ∷ [];
  gap = λ i. cond (eqb i 8) (32 ∷ 32 ∷ []) (32 ∷ []);
  wide = 48;
  fence = 124 ∷ [];
}

-- w digits of v
unfoldable pub digits_of : ℕ → ℕ → List ℕ
digits_of zero v = []
digits_of (suc w) v = digits_of w (v / 16) ++ (digit_of (v % 16) ∷ [])

-- the octets of a line from the i-th on
unfoldable pub octets_of : (ℕ → List ℕ) → ℕ → List ℕ → List ℕ
octets_of gap i [] = []
octets_of gap i (c ∷ cs) = gap i ++ (two c ++ octets_of gap (i + 1) cs)

-- what follows the octets, which take n characters
abbrev pub rest_of : Layout → ℕ → List ℕ → List ℕ
rest_of l n cs = replicate (2 + (l.wide - n)) 32 ++ (l.fence ++ (map (shown_of l.style.prefix) cs ++ l.fence))

-- a line: the octets c and cs, before which n stand
abbrev pub line_of : Layout → ℕ → ℕ → List ℕ → List ℕ
line_of l n c cs =
    digits_of 8 n ++ (l.mark ++ l.then) ++ (two c ++ octets_of l.gap 1 cs ++ rest_of l (length (two c ++ octets_of l.gap 1 cs)) (c ∷ cs))

-- k lines
unfoldable pub lines_of : Layout → ℕ → ℕ → List ℕ → List ℕ
lines_of l zero n bs = []
lines_of l (suc k) n [] = []
lines_of l (suc k) n (c ∷ cs) = line_of l n c (take 15 cs) ++ (10 ∷ lines_of l k (n + length (c ∷ take 15 cs)) (drop 15 cs))

abbrev pub xxd_of : List ℕ → List ℕ
xxd_of bs = lines_of xxd ((length bs + 15) / 16) 0 bs

-- at the end the number of octets, where there are any
abbrev pub hexdump_of : List ℕ → List ℕ
hexdump_of [] = []
hexdump_of (b ∷ bs) = lines_of hexdump ((length (b ∷ bs) + 15) / 16) 0 (b ∷ bs) ++ (digits_of 8 (length (b ∷ bs)) ++ (10 ∷ []))
