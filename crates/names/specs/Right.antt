-- What an answer of the check claims of the slice, by its number and said of the slice itself; and that a name has three octets at least.
-- Assumes nothing.
use Rattle.std.specs.Prelude.{◌≡◌, refl, ℕ, ◌≤◌, length, List, [], ◌∷◌, Ok, Err}
use Rattle.std.proofs.Common.{sym, ap, inl, inr, arith, length-append}
use Rattle.names.specs.Automaton.{Checked}
use Rattle.names.specs.Wire.{name_check}
use Rattle.octets.specs.Lists.{All}
use Rattle.names.specs.Names.{IsName, wire, Label}
use Rattle.names.specs.Told.{Claims}
use Rattle.names.specs.Complete.{wire-some}
use Rattle.names.specs.Exact.{good, bad}

-- what an answer claims of the slice: that it is a name, or where no name can continue
abbrev pub Right : List ℕ → Checked → Type 0
Right s r = Claims IsName s r

pub right : (s : List ℕ) (r : Checked) → r ≡ name_check s → Right s r
right s (Ok tt) e = inl (refl, (good s).0 (sym e))
right s (Err p) e = inr (refl, (bad s p).0 (sym e))

wire-three : (ls : List (List ℕ)) → 1 ≤ length ls → All Label ls → 3 ≤ length (wire ls)
wire-three [] h o = absurd (omega arith)
wire-three (l ∷ ls) h o =
    let a = length-append l (wire ls) in
    let b = wire-some ls in
    let s = o.0.some in
    omega arith

pub three : {s : List ℕ} → IsName s → 3 ≤ length s
three o =
    let e = ap length o.is in
    let w = wire-three o.labels o.some o.each in
    omega arith
