-- The parameters that a field begins with, whether or not they tile it: what the checks of values read, so that they need no premise.
-- Where the field is tiled these are its parameters. Assumes nothing: these are definitions.
use Rattle.std.specs.Prelude.{ℕ, zero, suc, List, [], ◌∷◌}
use Rattle.svcparams.specs.Params.{size_of, first}
use Rattle.svcparams.specs.Param.{Param, keys}

-- `s` begins with a parameter of so many octets; `go k` reads what follows the first octet of `s` and k more
abbrev pub after_entry : List ℕ → ℕ → (ℕ → List Param) → List Param
after_entry s zero go = []
after_entry s (suc k) go = first s ∷ go k

-- the field with its first k octets still to be skipped
unfoldable pub entries_from : ℕ → List ℕ → List Param
entries_from k [] = []
entries_from zero (x ∷ xs) = after_entry (x ∷ xs) (size_of (x ∷ xs)) (λ k. entries_from k xs)
entries_from (suc k) (x ∷ xs) = entries_from k xs

abbrev pub entries : List ℕ → List Param
entries p = entries_from 0 p

-- the keys of a field's parameters
abbrev pub keys_in : List ℕ → List ℕ
keys_in p = keys (entries p)
