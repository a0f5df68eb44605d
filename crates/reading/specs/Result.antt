-- What blocks yield together, what a reading answers, and what the call then returns and leaves (RULES W9 to W11, T6, T7). Assumes nothing: these are
-- definitions.
use Rattle.std.specs.Prelude.{◌≡◌, List, [], ◌∷◌, ◌++◌, ℕ, ◌+◌, length}
use Rattle.octets.specs.Over.{over}
use Rattle.blocks.specs.Block.{Fields}
use Rattle.judge.specs.Place.{Judged}
use Rattle.judge.specs.Place.{judged}
use Rattle.records.specs.Records.{Outcome, faulty, kept}
use Rattle.reading.specs.declared.Reading.{Reading}

-- what a block yields: its fault with the place in the block, or its records (RULES W9, W11)
pub data Yield : Type 0 where
  discarded : Judged → Yield
  yields : List Fields → Yield

-- a block that is one body yields what that body does (RULES W5 to W7)
abbrev pub single : Outcome → Yield
single (faulty j) = discarded j
single (kept r) = yields (r ∷ [])

-- a block with a fault brings no record (RULES T2)
abbrev pub records_in : Yield → List Fields
records_in (discarded j) = []
records_in (yields rs) = rs

-- the records of all blocks, in order of arrival (RULES S5)
abbrev pub arrivals : List Yield → List Fields
arrivals [] = []
arrivals (y ∷ ys) = records_in y ++ arrivals ys

-- 1 for a block that is discarded (RULES W9)
abbrev pub discards : Yield → ℕ
discards (discarded j) = 1
discards (yields rs) = 0

-- how many blocks are discarded (RULES W10)
abbrev pub discarded_in : List Yield → ℕ
discarded_in [] = 0
discarded_in (y ∷ ys) = discards y + discarded_in ys

-- the first discarded block's fault and place, or 0 and 0 (RULES W10, W11)
abbrev pub or_fault : Yield → Judged → Judged
or_fault (discarded j) later = j
or_fault (yields rs) later = later

abbrev pub first_fault : List Yield → Judged
first_fault [] = judged 0 0
first_fault (y ∷ ys) = or_fault y (first_fault ys)

-- what a reading that is done gives back, and its sheet (RULES W10, W11)
pub record Done : Type 0 where
  pub sheet : List ℕ
  pub found : ℕ
  pub discarded : ℕ
  pub fault : ℕ
  pub place : ℕ

-- a sheet and the blocks found, of which none is discarded (RULES W10)
abbrev pub faultless : List ℕ → ℕ → Done
faultless sheet found = record { sheet = sheet; found = found; discarded = 0; fault = 0; place = 0 }

-- a refusal's number, or what is done (RULES T6, W10)
pub data Answer : Type 0 where
  refuse : ℕ → Answer
  done : Done → Answer

-- what it returns: a refusal's number and zeros; or 0, the sheet's length and the blocks' numbers (RULES T6, W10, W11)
abbrev pub told : Answer → Reading
told (refuse k) = record { number = k; length = 0; found = 0; discarded = 0; fault = 0; place = 0 }
told (done d) = record { number = 0; length = length d.sheet; found = d.found; discarded = d.discarded; fault = d.fault; place = d.place }

-- what the buffer then holds: a refusal leaves it as it was, and past the sheet's length it is unchanged (RULES T6, T7)
abbrev pub left : Answer → List ℕ → List ℕ
left (refuse k) out = out
left (done d) out = over 0 d.sheet out

-- every number that the call returns, and the whole buffer after it (RULES D10)
pub record Reads (a : Answer) (out : List ℕ) (r : Reading) (out' : List ℕ) : Type 0 where
  pub numbers : r ≡ told a
  pub leaves : out' ≡ left a out
