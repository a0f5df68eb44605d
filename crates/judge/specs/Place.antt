-- A fault with its place, and where places are counted from (RULES W11, T8). Assumes nothing: these are definitions.
use Rattle.std.specs.Prelude.{cond, ℕ, ◌+◌, eqb, Result, Ok, Err}
use Rattle.numbers.specs.Fault as fault
use Rattle.judge.specs.declared.Flaw.{Flaw}

-- the number of a fault, or 0 for none, with its place
pub record Judged : Type 0 where
  pub fault : ℕ
  pub place : ℕ

-- fault k, or 0 for none, at place p
abbrev pub judged : ℕ → ℕ → Judged
judged k p = record { fault = k; place = p }

-- the place p of fault k, counted from n octets further back: that of 22 is so much greater, and no other fault has one (RULES W11, T8)
abbrev pub place_from : ℕ → ℕ → ℕ → ℕ
place_from n k p = cond (eqb k fault.name) (n + p) 0

-- the same of a fault with its place
abbrev pub from : ℕ → Judged → Judged
from n j = judged j.fault (place_from n j.fault j.place)

-- a flaw as its fault's number with its place
abbrev pub flawed : Flaw → Judged
flawed w = judged (fault.number_of w.fault) w.place

-- an answer as the number of its fault, or 0, with its place
abbrev pub judged_in : {T : Type 0} → Result T Flaw → Judged
judged_in (Ok _) = judged 0 0
judged_in (Err w) = flawed w
