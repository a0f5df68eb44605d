-- Wherever the check of a text stops, something else could follow: nothing after a letter or a digit, else the letter a. Assumes nothing.
use Rattle.std.specs.Prelude.{◌≡◌, refl, List, [], ◌∷◌, ℕ, ◌+◌, ◌-◌, Err}
use Rattle.std.proofs.Common.{◌∙◌, arith}
use Rattle.names.specs.Place.{a-alnum}
use Rattle.names.specs.Automaton.{stop}
use Rattle.names.specs.AutomatonLaws.{goes, ends-good, Ending, StopsAt, stopped}
use Rattle.texts.specs.TextCheck.{State, start, letter, hyphen, after, text_automaton, text_check}
use Rattle.texts.specs.Laws.{start-letter, inside-letter}
use Rattle.texts.specs.Sound.{Valid, Claim, stepped}

ending : (st : State) (y at : ℕ) → Valid st y at → Ending text_automaton st at
ending start y at v = (97 ∷ [], goes text_automaton start at 97 [] (start-letter at 97 a-alnum) ∙ ends-good text_automaton (letter (after at)) (at + 1) refl)
ending (letter k) y at v = ([], ends-good text_automaton (letter k) at refl)
ending (hyphen k) y at v = (
  97 ∷ [],
  goes text_automaton (hyphen k) at 97 [] (inside-letter k 97 stop a-alnum (omega arith)) ∙ ends-good text_automaton (letter (k - 1)) (at + 1) refl,
)

pub bad-stops : (s : List ℕ) (p : ℕ) → text_check s ≡ Err p → StopsAt text_automaton start 0 s p
unfolding text_check
bad-stops s p e = stopped text_automaton Valid Claim stepped ending s start 0 0 p (omega arith) e
