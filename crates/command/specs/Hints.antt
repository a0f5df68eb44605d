-- Which other carrier would find records in an area (docs/COMMAND.md, "Nothing found"). Assumes nothing: these are definitions.
use Rattle.std.specs.Prelude.{Bool, false, cond, List, ℕ, zero, suc, ◌+◌, ltb, eqb}
use Rattle.reading.specs.declared.Reading.{Reading}
use Rattle.command.specs.Numbers.{reading_of}

-- a reading has records
abbrev pub finds : Reading → Bool
finds r = cond (eqb r.number 0) (ltb r.discarded r.found) false

abbrev pub finds_in : ℕ → List ℕ → Bool
finds_in carrier area = finds (reading_of carrier area)

-- a carrier other than the one that was asked for finds some
abbrev pub suits_in : ℕ → ℕ → List ℕ → Bool
suits_in k carrier area = cond (eqb k carrier) false (finds_in k area)

-- the first of n carriers from k on
unfoldable pub hint_from : ℕ → ℕ → ℕ → List ℕ → ℕ
hint_from zero k carrier area = 0
hint_from (suc n) k carrier area = cond (suits_in k carrier area) k (hint_from n (k + 1) carrier area)

abbrev pub hint_of : ℕ → List ℕ → ℕ
hint_of carrier area = hint_from 5 1 carrier area
