-- Why a call of the system failed, as a number that is printed. Assumes nothing: this is a definition.
use Rattle.std.specs.Prelude.{ℕ, ℤ, pos, negsuc}

-- errno; below 0, which does not occur, 0
abbrev pub number_of : ℤ → ℕ
number_of (pos k) = k
number_of (negsuc k) = 0
