-- What a call that writes one buffer answers, and what it then returns and leaves (RULES T6 to T8). Assumes nothing: these are definitions.
use Rattle.std.specs.Prelude.{◌≡◌, List, ℕ, length}
use Rattle.octets.specs.Over.{over}
use Rattle.answers.specs.declared.Result.{Result}

-- a refusal's number and its place, which is 0 but for 22 (RULES T6, T8); or the octets
pub data Answer : Type 0 where
  refuse : (number place : ℕ) → Answer
  written : List ℕ → Answer

-- the number in an answer (RULES R0)
abbrev pub number_in : Answer → ℕ
number_in (refuse k p) = k
number_in (written bs) = 0

-- the three numbers: a refusal's, 0 and its place, or 0, the length of the octets and 0 (RULES T6, T8)
abbrev pub told : Answer → Result
told (refuse k p) = record { number = k; length = 0; place = p }
told (written bs) = record { number = 0; length = length bs; place = 0 }

-- the whole buffer: a refusal changes no octet (RULES T6), and past the octets it is as it was (RULES T7)
abbrev pub left : Answer → List ℕ → List ℕ
left (refuse k p) out = out
left (written bs) out = over 0 bs out

-- every number that the call returns, and the whole buffer after it (RULES D10)
pub record Writes (a : Answer) (out : List ℕ) (r : Result) (out' : List ℕ) : Type 0 where
  pub numbers : r ≡ told a
  pub leaves : out' ≡ left a out
