-- What it is for a text to spell octets as C and the shell write them in strings (docs/COMMAND.md, "Lists"), said without a reader. Assumes nothing: these
-- are definitions.
use Rattle.std.specs.Prelude.{◌≡◌, List, [], ◌∷◌, ℕ, ◌+◌, ◌*◌}
use Rattle.hexes.specs.Spelled.{Digit}
use Rattle.groups.specs.Spells.{Blank}

-- what may stand between octets
pub data Apart (x : ℕ) : Type 0 where
  quotation_mark : x ≡ 34 → Apart x
  blank : Blank x → Apart x
  line_break : x ≡ 10 → Apart x

-- the text spells the octets: \x and two digits each, the more significant first
pub data SpellsEscapes : List ℕ → List ℕ → Type 0 where
  nothing : SpellsEscapes [] []
  apart : {x : ℕ} {t bs : List ℕ} → Apart x → SpellsEscapes t bs → SpellsEscapes (x ∷ t) bs
  octet : {a b x y v w : ℕ} {t bs : List ℕ} → a ≡ 92 → b ≡ 120 → Digit x v → Digit y w → SpellsEscapes t bs
      → SpellsEscapes (a ∷ b ∷ x ∷ y ∷ t) ((v * 16 + w) ∷ bs)
