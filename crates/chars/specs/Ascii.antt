-- Texts as the codes of their characters. Assumes nothing: these are definitions.
use Prim.Native.Char.{code}
use Prim.Native.String.{String, [], ◌∷◌}
use Rattle.std.specs.Prelude.{ℕ, List, [] as none, ◌∷◌ as ◌then◌}
use Rattle.ips.specs.Ips.{numeral}

-- the codes of a text's characters
abbrev pub ascii : String → List ℕ
ascii [] = none
ascii (c ∷ s) = code c then ascii s

-- a number below 10²⁰ in decimal, without leading zeros
abbrev pub decimal_of : ℕ → List ℕ
decimal_of n = numeral 10 19 n
