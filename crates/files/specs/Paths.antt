-- Where a link leads: its folder, and where what it says is written. Assumes nothing: these are definitions.
use Rattle.std.specs.Prelude.{cond, List, ℕ, zero, suc, eqb, length, get_or}

-- the index after the last slash of the first n octets
unfoldable pub slash_in : ℕ → List ℕ → ℕ
slash_in zero s = 0
slash_in (suc k) s = cond (eqb (get_or s k 0) 47) (suc k) (slash_in k s)

-- of a path: its folder ends there
abbrev pub folder_of : List ℕ → ℕ
folder_of s = slash_in (length s) s

-- what a link says stands in its folder, or at the front if it begins with a slash
abbrev pub place_of : List ℕ → ℕ → ℕ
place_of s first = cond (eqb first 47) 0 (folder_of s)
