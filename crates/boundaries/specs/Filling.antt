-- What a buffer holds before a call: 165 at each index. Assumes nothing: these are definitions.
use Rattle.std.specs.Prelude.{Bool, List, ℕ, eqb}
use Rattle.std.specs.List.{list_all}

-- whether each octet is 165
abbrev pub all_filled : List ℕ → Bool
all_filled s = list_all (λ x. eqb x 165) s
