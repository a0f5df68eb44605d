-- What an answer of the check of a text claims of the slice, by its number and said of the slice itself. Assumes nothing.
use Rattle.std.specs.Prelude.{◌≡◌, refl, List, ℕ, Ok, Err}
use Rattle.std.proofs.Common.{sym, inl, inr}
use Rattle.names.specs.Automaton.{Checked}
use Rattle.names.specs.Told.{Claims}
use Rattle.texts.specs.Texts.{IsText}
use Rattle.texts.specs.TextCheck.{text_check}
use Rattle.texts.specs.Exact.{good, bad}

-- what an answer claims of the slice: that it is a name as text, or where no such text can continue
abbrev pub Right : List ℕ → Checked → Type 0
Right s r = Claims IsText s r

pub right : (s : List ℕ) (r : Checked) → r ≡ text_check s → Right s r
right s (Ok tt) e = inl (refl, (good s).0 (sym e))
right s (Err p) e = inr (refl, (bad s p).0 (sym e))
